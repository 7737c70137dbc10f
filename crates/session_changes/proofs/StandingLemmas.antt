-- What is listed stands at its place in both trees, and differs there.
use Rattle.std.proofs.Common.{◌≡◌, ℕ, ◌+◌, true, false, ◌&&◌, List, [], ◌∷◌, ◌++◌, length, Some, refl, sym, ap, subst, ◌∙◌, append_assoc, if◌then◌else◌}
use Rattle.std.specs.Prelude.{option_and_then}
use Rattle.std.specs.List.{AllByRecursion}
use Rattle.std.specs.Ordering.{int_eq}
use Rattle.std.proofs.lemmas.List.{length-append}
use Rattle.term_core.specs.Tree.{Head, Tree, Trees, integer, branch, none, more, to_list, of_list, annotations}
use Rattle.term_core.proofs.TreeLemmas.{of_list-to_list}
use Rattle.term_paths.specs.Paths.{at}
use Rattle.term_paths.proofs.PathLemmas.{at-append, at-child}
use Rattle.strategy_meaning.specs.Same.{same_head, same_trees}
use Rattle.session_history.specs.Differences.{Difference, subterms_differ, annotations_differ, as_many, annotated, differences, differences_from}
use Rattle.session_changes.specs.DifferenceLaws.{same_root, StandsIn, EachPlaceDiffers}
use Rattle.session_changes.proofs.DifferenceLemmas.{kid_there}

module _ (w v : Tree) where
  abbrev All : List Difference → Type 0
  All ds = AllByRecursion (StandsIn w v) ds

  all_append : (ds es : List Difference) → All ds → All es → All (ds ++ es)
  all_append [] es h g = g
  all_append (d ∷ ds) es h g = (h.0, all_append ds es h.1 g)

  annotated_stands : (p : List ℕ) (x y : Tree) (ns ms : Trees) → at w p ≡ Some x → at v p ≡ Some y
      → same_root x y ≡ true
      → annotations x ≡ to_list ns → annotations y ≡ to_list ms → All (annotated p ns ms)
  annotated_stands p x y ns ms e g root a b =
      elim (same_trees ns ms) as (λ c. same_trees ns ms ≡ c → All (if c then [] else annotations_differ p ns ms ∷ [])) [
        | true ↦ λ test. tt
        | false ↦ λ test. ((x, y, e, g, root, a, b, test), tt)
      ] refl

  mutual
    tree_stands : (p : List ℕ) (t u : Tree) → at w p ≡ Some t → at v p ≡ Some u → All (differences p t u)
    tree_stands p (integer y ns) (integer z ms) e g =
        elim (int_eq y z) as (λ c.
        int_eq y z ≡ c → All (if c then annotated p ns ms else subterms_differ p (integer y ns) (integer z ms) ∷ [])) [
          | true ↦ λ test. annotated_stands p (integer y ns) (integer z ms) ns ms e g test refl refl
          | false ↦ λ test. ((e, g, test), tt)
        ] refl
    tree_stands p (integer y ns) (branch k vs ms) e g = ((e, g, refl), tt)
    tree_stands p (branch h us ns) (integer z ms) e g = ((e, g, refl), tt)
    tree_stands p (branch h us ns) (branch k vs ms) e g =
        elim (same_head h k && as_many us vs) as (λ c. same_head h k && as_many us vs ≡ c
        → All (if c then annotated p ns ms
        ++ differences_from p 0 us vs else subterms_differ p (branch h us ns) (branch k vs ms) ∷ [])) [
          | true ↦ λ test. all_append (annotated p ns ms) (differences_from p 0 us vs)
              (annotated_stands p (branch h us ns) (branch k vs ms) ns ms e g test refl refl)
              (trees_stand p h k ns ms [] [] us vs refl (e ∙ (λ j. Some (branch h (sym (of_list-to_list us) j) ns)))
              (g ∙ (λ j. Some (branch k (sym (of_list-to_list vs) j) ms))))
          | false ↦ λ test. ((e, g, test), tt)
        ] refl

    -- children that come after these
    trees_stand : (p : List ℕ) (h k : Head) (ns ms : Trees) (pre qre : List Tree) (ts us : Trees)
        → length qre ≡ length pre
        → at w p ≡ Some (branch h (of_list (pre ++ to_list ts)) ns)
        → at v p ≡ Some (branch k (of_list (qre ++ to_list us)) ms)
        → All (differences_from p (length pre) ts us)
    trees_stand p h k ns ms pre qre none none same e g = tt
    trees_stand p h k ns ms pre qre none (more u us) same e g = tt
    trees_stand p h k ns ms pre qre (more t ts) none same e g = tt
    trees_stand p h k ns ms pre qre (more t ts) (more u us) same e g =
        let i = length pre in
        let b = branch h (of_list (pre ++ t ∷ to_list ts)) ns in
        let c = branch k (of_list (qre ++ u ∷ to_list us)) ms in
        let left : at w (p ++ i ∷ []) ≡ Some t = at-append w p (i ∷ []) ∙ ap (option_and_then (λ x. at x (i ∷ []))) e
        ∙ at-child b t i [] (kid_there h ns pre t (to_list ts)) in
        let right : at v (p ++ i ∷ []) ≡ Some u =
        at-append v p (i ∷ []) ∙ ap (option_and_then (λ x. at x (i ∷ []))) g ∙ ap (λ n. at c (n ∷ [])) (sym same)
        ∙ at-child c u (length qre) [] (kid_there k ms qre u (to_list us)) in
        let on : length (pre ++ t ∷ []) ≡ i + 1 = length-append pre (t ∷ []) in
        let alike : length (qre ++ u ∷ []) ≡ length (pre ++ t ∷ []) = length-append qre (u ∷ []) ∙ ap (λ n. n + 1) same
        ∙ sym on in
        let rest : All (differences_from p (length (pre ++ t ∷ [])) ts us) =
        trees_stand p h k ns ms (pre ++ t ∷ []) (qre ++ u ∷ []) ts us alike
        (e ∙ (λ j. Some (branch h (of_list (sym (append_assoc pre (t ∷ []) (to_list ts)) j)) ns)))
        (g ∙ (λ j. Some (branch k (of_list (sym (append_assoc qre (u ∷ []) (to_list us)) j)) ms))) in
        all_append (differences (p ++ i ∷ []) t u) (differences_from p (i + 1) ts us)
        (tree_stands (p ++ i ∷ []) t u left right)
        (subst (λ n. All (differences_from p n ts us)) on rest)

pub each_place_differs : EachPlaceDiffers
each_place_differs t u = tree_stands t u [] t u refl refl
