-- Terms without annotations.
use Rattle.std.proofs.Common.{◌≡◌, ℕ, ◌+◌, ◌<◌, Bool, true, false, ◌&&◌, List, [], ◌∷◌, ◌++◌, length, take, get_or, refl, sym, ap, ◌∙◌, arith}
use Rattle.std.proofs.lemmas.List.{take_more}
use Rattle.term_core.specs.Tree.{Tree, more, none, of_list}
use Rattle.strategy_meaning.specs.Same.{same_tree, same_trees}
use Rattle.prim_extended.specs.Annotations.{stripped, all_stripped}

append_stripped : (ms us : List Tree) (m u : Tree) → of_list ms ≡ all_stripped (of_list us) → m ≡ stripped u
    → of_list (ms ++ m ∷ []) ≡ all_stripped (of_list (us ++ u ∷ []))
append_stripped [] [] m u e f = ap (λ x. more x none) f
append_stripped [] (v ∷ us) m u e f = absurd (cc)
append_stripped (n ∷ ms) [] m u e f = absurd (cc)
append_stripped (n ∷ ms) (v ∷ us) m u e f =
    let first : n ≡ stripped v = cc in
    let rest : of_list ms ≡ all_stripped (of_list us) = cc in
    let both : of_list (ms ++ m ∷ []) ≡ all_stripped (of_list (us ++ u ∷ [])) = append_stripped ms us m u rest f in
    λ i. more (first i) (both i)

-- one term more
pub one_more : (ts ms made : List Tree) (i : ℕ) (t m : Tree) → i < length ts → t ≡ get_or ts i t → m ≡ stripped t
    → made ≡ ms ++ m ∷ []
    → of_list ms ≡ all_stripped (of_list (take i ts)) → of_list made ≡ all_stripped (of_list (take (i + 1) ts))
one_more ts ms made i t m h is e f g =
    ap of_list f ∙ append_stripped ms (take i ts) m t g e
    ∙ ap (λ l. all_stripped (of_list l)) (sym (take_more ts i t h ∙ ap (λ x. take i ts ++ x ∷ []) (sym is)))

right_false : (a : Bool) → false ≡ a && false
right_false true = refl
right_false false = refl

-- lists of two lengths
pub never_equal : (ts us : List Tree)
    → (length ts ≡ length us → ⊥) → false ≡ same_trees (all_stripped (of_list ts)) (all_stripped (of_list us))
never_equal [] [] never = absurd (never refl)
never_equal [] (u ∷ us) never = refl
never_equal (t ∷ ts) [] never = refl
never_equal (t ∷ ts) (u ∷ us) never =
    right_false (same_tree (stripped t) (stripped u))
    ∙ ap (λ b. same_tree (stripped t) (stripped u) && b) (never_equal ts us (λ e. never (omega (arith, e))))
