-- How the logic stores changes and edits, as terms.
use Rattle.std.specs.Prelude.{◌≡◌, ℕ, pos, List, refl}
use Rattle.std.proofs.Common.{ap}
use Rattle.std.specs.Coded.{Coded, code_by, coded×, coded_list, coded_ℕ}
use Rattle.term_core.specs.Tree.{list, tuple, application, Tree, Trees, integer, branch, none, more}
use Rattle.term_core.specs.inside.TreeCode.{tree_code}
use Rattle.term_paths.specs.Edits.{Edit}
use Rattle.term_changes.specs.Change.{Change, same, inside, replaced, Changes, no_more, and_then}

abbrev mutual
  pub change_tree : Change → Tree
  change_tree same = integer (pos 0) none
  change_tree (inside cs) = branch list (changes_trees cs) none
  change_tree (replaced u) = branch tuple (more u none) none

  pub changes_trees : Changes → Trees
  changes_trees no_more = none
  changes_trees (and_then c cs) = more (change_tree c) (changes_trees cs)

abbrev pub on_first : Trees → Change
on_first none = same
on_first (more t ts) = replaced t

abbrev mutual
  pub tree_change : Tree → Change
  tree_change (integer z notes) = same
  tree_change (branch list ts notes) = inside (trees_changes ts)
  tree_change (branch tuple ts notes) = on_first ts
  tree_change (branch (application f) ts notes) = same

  pub trees_changes : Trees → Changes
  trees_changes none = no_more
  trees_changes (more t ts) = and_then (tree_change t) (trees_changes ts)

mutual
  pub change_again : (c : Change) → tree_change (change_tree c) ≡ c
  change_again same = refl
  change_again (inside cs) = ap inside (changes_again cs)
  change_again (replaced u) = refl

  pub changes_again : (cs : Changes) → trees_changes (changes_trees cs) ≡ cs
  changes_again no_more = refl
  changes_again (and_then c cs) = λ i. and_then (change_again c i) (changes_again cs i)

abbrev pub as_inside : Change → Changes
as_inside same = no_more
as_inside (inside cs) = cs
as_inside (replaced u) = no_more

abbrev pub changes_code : Coded Changes
changes_code =
    code_by Tree tree_code (λ cs. change_tree (inside cs)) (λ t. as_inside (tree_change t))
    (λ cs. ap as_inside (change_again (inside cs)))

abbrev pub edit_code : Coded Edit
edit_code =
    code_by (List ℕ × Tree) (coded× (coded_list coded_ℕ) tree_code) (λ x. (x.path, x.new))
    (λ p. record { path = p.0; new = p.1 }) (λ _. refl)
