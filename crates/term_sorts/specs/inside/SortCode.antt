-- How the logic stores sorts and declarations: as terms, and as their fields.
use Rattle.std.specs.Prelude.{◌≡◌, List, [], refl, false}
use Rattle.std.proofs.Common.{ap}
use Rattle.std.specs.Coded.{Coded, code_by, coded×, coded_list}
use Rattle.term_core.specs.Tree.{Symbol, Head, application, list, tuple, Tree, Trees, integer, branch, none, more}
use Rattle.term_core.specs.inside.TreeCode.{symbol_code, tree_code}
use Rattle.term_sorts.specs.Sorts.{Sort, sort, Sorts, no_sorts, and_sort, Declaration, Injection}

abbrev mutual
  sort_tree : Sort → Tree
  sort_tree (sort f ss) = branch (application f) (sorts_trees ss) none

  sorts_trees : Sorts → Trees
  sorts_trees no_sorts = none
  sorts_trees (and_sort s ss) = more (sort_tree s) (sorts_trees ss)

abbrev nameless : Symbol
nameless = record { text = []; is_quoted = false }

abbrev head_name : Head → Symbol
head_name (application f) = f
head_name list = nameless
head_name tuple = nameless

abbrev mutual
  tree_sort : Tree → Sort
  tree_sort (integer z notes) = sort nameless no_sorts
  tree_sort (branch h ts notes) = sort (head_name h) (trees_sorts ts)

  trees_sorts : Trees → Sorts
  trees_sorts none = no_sorts
  trees_sorts (more t ts) = and_sort (tree_sort t) (trees_sorts ts)

mutual
  pub sort_again : (s : Sort) → tree_sort (sort_tree s) ≡ s
  sort_again (sort f ss) = ap (sort f) (sorts_again ss)

  pub sorts_again : (ss : Sorts) → trees_sorts (sorts_trees ss) ≡ ss
  sorts_again no_sorts = refl
  sorts_again (and_sort s ss) = λ i. and_sort (sort_again s i) (sorts_again ss i)

abbrev pub sort_code : Coded Sort
sort_code = code_by Tree tree_code sort_tree tree_sort sort_again

abbrev pub declaration_code : Coded Declaration
declaration_code =
    code_by (Symbol × (List Sort × Sort)) (coded× symbol_code (coded× (coded_list sort_code) sort_code))
    (λ d. (d.name, (d.arguments, d.result))) (λ p. record { name = p.0; arguments = p.1.0; result = p.1.1 }) (λ _. refl)

abbrev pub injection_code : Coded Injection
injection_code =
    code_by (Sort × Sort) (coded× sort_code sort_code)
    (λ i. (i.from, i.to)) (λ p. record { from = p.0; to = p.1 }) (λ _. refl)
