-- What the primitives on lists go over.
use Rattle.std.proofs.Common.{◌≡◌, Bool, true, false, List, ◌∷◌, ◌++◌, Some, refl, sym, ap, ◌∙◌, cond}
use Rattle.std.specs.declared.option.Option.{Option}
use Rattle.std.specs.Cmp.{both_ways, tied_itself, Equal-is}
use Rattle.std.specs.List.{cons_option, filter_map, find}
use Rattle.std.specs.Option.{option_map}
use Rattle.std.specs.Ordering.{is_eq}
use Rattle.term_core.specs.Tree.{Tree}
use Rattle.term_order.specs.Order.{compared}
use Rattle.term_order.proofs.OrderLemmas.{order, same_terms}
use Rattle.strategy_meaning.specs.Same.{same_tree}
use Rattle.strategy_meaning.proofs.SameLemmas.{same_is_equal}
use Rattle.prim_extended.specs.ListPrimitives.{pair_value, second_of}

-- terms tie where they are equal
pub ties : (t u : Tree) → is_eq (compared t u) ≡ same_tree t u
ties t u = both_ways (is_eq (compared t u)) (same_tree t u)
    (λ e. (same_is_equal t u).1 (same_terms t u ((Equal-is (compared t u)).0 e)))
    (λ e. (Equal-is (compared t u)).1 (ap (compared t) (sym ((same_is_equal t u).0 e)) ∙ tied_itself order t))

-- ---- lists one after the other

-- these elements, and after them what is to come
abbrev pub onto : {A : Type 0} → List A → Option (List A) → Option (List A)
onto before o = option_map (λ us. before ++ us) o

-- ---- lists of pairs

abbrev among : Tree → Option (Tree × Tree) → List Tree → Option Tree
among t o us = option_map (λ p. p.1) (find (λ p. same_tree t p.0) (cons_option o (filter_map pair_value us)))

taken : (b : Bool) (p : Tree × Tree) (o : Option (Tree × Tree)) → option_map (λ (q : Tree × Tree). q.1)
    (cond b (Some p) o) ≡ cond b (Some p.1) (option_map (λ q. q.1) o)
taken true p o = refl
taken false p o = refl

pub one_pair : (t u k v : Tree) (us : List Tree) (b : Bool) → Some (k, v) ≡ pair_value u → b ≡ same_tree t k
    → second_of t (u ∷ us) ≡ cond b (Some v) (second_of t us)
one_pair t u k v us b e same =
    ap (λ o. among t o us) (sym e)
    ∙ taken (same_tree t k) (k, v) (find (λ p. same_tree t p.0) (filter_map pair_value us))
    ∙ ap (λ c. cond c (Some v) (second_of t us)) (sym same)
