-- What was there, put back at the places that differ, gives the tree from before.
use Rattle.std.proofs.Common.{◌≡◌, ℕ, ◌+◌, true, false, ◌&&◌, List, [], ◌∷◌, ◌++◌, length, Some, refl, sym, ap, ◌∙◌, append_assoc, append-nil, if◌then◌else◌}
use Rattle.std.specs.Prelude.{option_and_then}
use Rattle.std.specs.Ordering.{int_eq}
use Rattle.std.proofs.lemmas.List.{length-append}
use Rattle.std.proofs.lemmas.Bool.Decides.{Decides-int_eq}
use Rattle.term_core.specs.Tree.{Head, Tree, Trees, integer, branch, none, more, to_list, of_list, with_annotations}
use Rattle.term_core.proofs.TreeLemmas.{of_list-to_list}
use Rattle.term_paths.specs.Paths.{at, set_at, set_annotations_at}
use Rattle.term_paths.proofs.PathLemmas.{at-append, at-child, set_at-child}
use Rattle.term_paths.proofs.LawLemmas.{putting_back, set_is_there, last_set_stays, set_after, set_annotations_after}
use Rattle.strategy_meaning.specs.Same.{same_head, same_trees}
use Rattle.strategy_meaning.proofs.SameLemmas.{head-eq}
use Rattle.session_history.specs.Differences.{Difference, subterms_differ, annotations_differ, as_many, annotated, differences, differences_from}
use Rattle.session_changes.specs.DifferenceLaws.{put_back, all_put_back, DifferencesLeadBack, EqualTreesDontDiffer}
use Rattle.session_changes.proofs.DifferenceLemmas.{and_left, and_right, trees_equal, differences_same, kid_there, kid_set}

-- ---- setting

set_same : (w u : Tree) (p : List ℕ) → at w p ≡ Some u → set_at w p u ≡ w
set_same w u p e = sym (last_set_stays w u u p) ∙ putting_back w u u p e

annotations_set : (w u : Tree) (l : List Tree) (p : List ℕ) → at w p ≡ Some u
    → set_annotations_at w p l ≡ set_at w p (with_annotations u l)
annotations_set w u l p e = ap (λ q. set_annotations_at w q l) (sym (append-nil p)) ∙ set_annotations_after w u l p [] e

all_put_back-append : (w : Tree) (xs ys : List Difference)
    → all_put_back w (xs ++ ys) ≡ all_put_back (all_put_back w xs) ys
all_put_back-append w [] ys = refl
all_put_back-append w (x ∷ xs) ys = all_put_back-append (put_back x w) xs ys

-- ---- annotations

annotated_back : (w : Tree) (p : List ℕ) (ns ms : Trees) (u v : Tree) → at w p ≡ Some u
    → v ≡ with_annotations u (to_list ns) → (ms ≡ ns → u ≡ v)
    → all_put_back w (annotated p ns ms) ≡ set_at w p v
annotated_back w p ns ms u v e is same =
    elim (same_trees ns ms) as (λ b.
    same_trees ns ms ≡ b → all_put_back w (if b then [] else annotations_differ p ns ms ∷ []) ≡ set_at w p v) [
      | true ↦ λ test. let equal : ns ≡ ms = (trees_equal ns ms).0 test in
          sym (set_same w u p e) ∙ ap (set_at w p) (same (sym equal))
      | false ↦ λ test. annotations_set w u (to_list ns) p e ∙ ap (set_at w p) (sym is)
    ] refl

-- ---- trees

mutual
  tree_back : (w : Tree) (p : List ℕ) (t u : Tree) → at w p ≡ Some u → all_put_back w (differences p t u) ≡ set_at w p t
  tree_back w p (integer y ns) (integer z ms) e =
      elim (int_eq y z) as (λ b. int_eq y z ≡ b → all_put_back w (if b then annotated p ns ms else subterms_differ p
      (integer y ns) (integer z ms) ∷ []) ≡ set_at w p (integer y ns)) [
        | true ↦ λ test. let same : y ≡ z = (Decides-int_eq y z).0 test in
            annotated_back w p ns ms (integer z ms) (integer y ns) e
            (λ k. integer (same k) (sym (of_list-to_list ns) k)) (λ equal k. integer (sym same k) (equal k))
        | false ↦ λ test. refl
      ] refl
  tree_back w p (integer y ns) (branch k vs ms) e = refl
  tree_back w p (branch h us ns) (integer z ms) e = refl
  tree_back w p (branch h us ns) (branch k vs ms) e =
      elim (same_head h k && as_many us vs) as (λ b. same_head h k && as_many us vs ≡ b
      → all_put_back w (if b then annotated p ns ms ++ differences_from p 0 us vs else subterms_differ p
      (branch h us ns) (branch k vs ms) ∷ []) ≡ set_at w p (branch h us ns)) [
        | true ↦ λ test.
            let same : h ≡ k = head-eq h k (and_left (same_head h k) (as_many us vs) test) in
            let count = and_right (same_head h k) (as_many us vs) test in
            let first : all_put_back w (annotated p ns ms) ≡ set_at w p (branch k vs ns) =
            annotated_back w p ns ms (branch k vs ms) (branch k vs ns) e (λ j. branch k vs (sym (of_list-to_list ns) j))
            (λ equal j. branch k vs (equal j)) in
            let there : at (set_at w p (branch k vs ns)) p ≡ Some (branch k (of_list ([] ++ to_list vs)) ns) =
            set_is_there w (branch k vs ns) (branch k vs ms) p e
            ∙ (λ j. Some (branch k (sym (of_list-to_list vs) j) ns)) in
            all_put_back-append w (annotated p ns ms) (differences_from p 0 us vs)
            ∙ ap (λ x. all_put_back x (differences_from p 0 us vs)) first
            ∙ trees_back (set_at w p (branch k vs ns)) p k ns [] us vs count there
            ∙ last_set_stays w (branch k vs ns) (branch k (of_list (to_list us)) ns) p
            ∙ (λ j. set_at w p (branch (sym same j) (of_list-to_list us j) ns))
        | false ↦ λ test. refl
      ] refl

  trees_back : (w : Tree) (p : List ℕ) (h : Head) (ns : Trees) (pre : List Tree) (ts us : Trees) → as_many ts us ≡ true
      → at w p ≡ Some (branch h (of_list (pre ++ to_list us)) ns)
      → all_put_back w (differences_from p (length pre) ts us) ≡ set_at w p (branch h (of_list (pre ++ to_list ts)) ns)
  trees_back w p h ns pre none none count e = sym (set_same w (branch h (of_list (pre ++ [])) ns) p e)
  trees_back w p h ns pre none (more u us) count e = absurd (cc)
  trees_back w p h ns pre (more t ts) none count e = absurd (cc)
  trees_back w p h ns pre (more t ts) (more u us) count e =
      let i = length pre in
      let b = branch h (of_list (pre ++ u ∷ to_list us)) ns in
      let kid : at w (p ++ i ∷ []) ≡ Some u = at-append w p (i ∷ []) ∙ ap (option_and_then (λ x. at x (i ∷ []))) e
      ∙ at-child b u i [] (kid_there h ns pre u (to_list us)) in
      let after = branch h (of_list (pre ++ t ∷ to_list us)) ns in
      let first : all_put_back w (differences (p ++ i ∷ []) t u) ≡ set_at w p after =
      tree_back w (p ++ i ∷ []) t u kid ∙ set_after w b t p (i ∷ []) e ∙ ap (set_at w p)
      (set_at-child b u t i [] (kid_there h ns pre u (to_list us)) ∙ kid_set h ns pre u (to_list us) t) in
      let on : length (pre ++ t ∷ []) ≡ i + 1 = length-append pre (t ∷ []) in
      let assoc : (vs : List Tree) → (pre ++ t ∷ []) ++ vs ≡ pre ++ t ∷ vs = λ vs. append_assoc pre (t ∷ []) vs in
      let there : at (set_at w p after) p ≡ Some (branch h (of_list ((pre ++ t ∷ []) ++ to_list us)) ns) =
      set_is_there w after b p e ∙ (λ j. Some (branch h (of_list (sym (assoc (to_list us)) j)) ns)) in
      all_put_back-append w (differences (p ++ i ∷ []) t u) (differences_from p (i + 1) ts us)
      ∙ ap (λ x. all_put_back x (differences_from p (i + 1) ts us)) first
      ∙ ap (λ n. all_put_back (set_at w p after) (differences_from p n ts us)) (sym on)
      ∙ trees_back (set_at w p after) p h ns (pre ++ t ∷ []) ts us count there
      ∙ last_set_stays w after (branch h (of_list ((pre ++ t ∷ []) ++ to_list ts)) ns) p
      ∙ ap (λ l. set_at w p (branch h (of_list l) ns)) (assoc (to_list ts))

pub differences_lead_back : DifferencesLeadBack
differences_lead_back t u = tree_back u [] t u refl

pub equal_trees_dont_differ : EqualTreesDontDiffer
equal_trees_dont_differ t = differences_same [] t
