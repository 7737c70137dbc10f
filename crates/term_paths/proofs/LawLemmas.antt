-- The laws of paths.
use Rattle.std.proofs.Common.{◌≡◌, ℕ, List, ◌++◌, refl, sym, ap, ◌∙◌, Some, None, unwrap_or, option_map}
use Rattle.term_core.specs.Tree.{Tree, integer, branch, annotations, with_annotations}
use Rattle.term_core.proofs.TreeLemmas.{to_list-of_list, of_list-to_list}
use Rattle.term_paths.specs.Paths.{at, annotations_at, set_at, set_annotations_at}
use Rattle.term_paths.specs.Laws.{PuttingBack, PuttingAnnotationsBack, SetIsThere, SetAnnotationsAreThere, LastSetStays, LastAnnotationsStay, SubtermAfterAnnotations, swapped, annotations_swapped, SwappingTwiceIsNothing, SwappingAnnotationsTwiceIsNothing, SetAfter, SetAnnotationsAfter}
use Rattle.term_paths.proofs.PathLemmas.{changed_at, set_at-changed, set_annotations_at-changed, at-changed_at, changed_at-changed_at, changed_at-same, changed_at-nowhere, changed_at-append}

-- ---- subterms

pub putting_back : PuttingBack
putting_back t u old p e =
    ap (λ s. set_at s p old) (set_at-changed t u p)
    ∙ set_at-changed (changed_at (λ _. u) t p) old p
    ∙ changed_at-changed_at (λ _. u) (λ _. old) t p
    ∙ changed_at-same (λ _. old) t old p e refl

pub set_is_there : SetIsThere
set_is_there t u old p e = ap (λ s. at s p) (set_at-changed t u p) ∙ at-changed_at (λ _. u) t old p e

pub set_nowhere : (t u : Tree) (p : List ℕ) → at t p ≡ None → set_at t p u ≡ t
set_nowhere t u p e = set_at-changed t u p ∙ changed_at-nowhere (λ _. u) t p e

pub swapping_twice : SwappingTwiceIsNothing
swapping_twice p t u =
    elim (at t p) as (λ o. at t p ≡ o → swapped p (swapped p (t, u)) ≡ (t, u)) [
      | None ↦ λ e.
          let once : swapped p (t, u) ≡ (t, u) = λ i. (set_nowhere t u p e i, unwrap_or (e i) u) in
          ap (swapped p) once ∙ once
      | Some old ↦ λ e.
          let once : swapped p (t, u) ≡ (set_at t p u, old) = λ i. (set_at t p u, unwrap_or (e i) u) in
          ap (swapped p) once
          ∙ (λ i. (putting_back t u old p e i, unwrap_or (set_is_there t u old p e i) old))
    ] refl

-- ---- annotations

annotations_twice : (t : Tree) (us : List Tree) → with_annotations (with_annotations t us) (annotations t) ≡ t
annotations_twice (integer z notes) us = ap (λ l. integer z l) (of_list-to_list notes)
annotations_twice (branch head kids notes) us = ap (λ l. branch head kids l) (of_list-to_list notes)

annotations-with_annotations : (t : Tree) (us : List Tree) → annotations (with_annotations t us) ≡ us
annotations-with_annotations (integer z notes) us = to_list-of_list us
annotations-with_annotations (branch head kids notes) us = to_list-of_list us

-- the subterm that has these annotations
bearer : (t : Tree) (p : List ℕ) (notes : List Tree) → annotations_at t p ≡ Some notes
    → (u : Tree) × (at t p ≡ Some u) × (annotations u ≡ notes)
bearer t p notes e =
    elim (at t p) as (λ o. option_map annotations o ≡ Some notes
    → (u : Tree) × (o ≡ Some u) × (annotations u ≡ notes)) [
      | None ↦ λ e. absurd (cc)
      | Some u ↦ λ e. (u, refl, cc)
    ] e

pub putting_annotations_back : PuttingAnnotationsBack
putting_annotations_back t us old p e =
    let b = bearer t p old e in
    ap (λ s. set_annotations_at s p old) (set_annotations_at-changed t us p)
    ∙ set_annotations_at-changed (changed_at (λ u. with_annotations u us) t p) old p
    ∙ changed_at-changed_at (λ u. with_annotations u us) (λ u. with_annotations u old) t p
    ∙ changed_at-same (λ u. with_annotations (with_annotations u us) old) t b.0 p b.1
    (ap (with_annotations (with_annotations b.0 us)) (sym b.2) ∙ annotations_twice b.0 us)

pub set_annotations_are_there : SetAnnotationsAreThere
set_annotations_are_there t us old p e =
    let b = bearer t p old e in
    ap (option_map annotations)
    (ap (λ s. at s p) (set_annotations_at-changed t us p) ∙ at-changed_at (λ u. with_annotations u us) t b.0 p b.1)
    ∙ ap Some (annotations-with_annotations b.0 us)

pub set_annotations_nowhere : (t : Tree) (us : List Tree) (p : List ℕ)
    → annotations_at t p ≡ None → set_annotations_at t p us ≡ t
set_annotations_nowhere t us p e =
    elim (at t p) as (λ o. at t p ≡ o → set_annotations_at t p us ≡ t) [
      | None ↦ λ is. set_annotations_at-changed t us p ∙ changed_at-nowhere (λ u. with_annotations u us) t p is
      | Some u ↦ λ is. absurd (let no = sym (ap (option_map annotations) is) ∙ e in cc)
    ] refl

pub swapping_annotations_twice : SwappingAnnotationsTwiceIsNothing
swapping_annotations_twice p t us =
    elim (annotations_at t p) as (λ o.
    annotations_at t p ≡ o → annotations_swapped p (annotations_swapped p (t, us)) ≡ (t, us)) [
      | None ↦ λ e.
          let once : annotations_swapped p (t, us) ≡ (t, us) =
          λ i. (set_annotations_nowhere t us p e i, unwrap_or (e i) us) in
          ap (annotations_swapped p) once ∙ once
      | Some old ↦ λ e.
          let once : annotations_swapped p (t, us) ≡ (set_annotations_at t p us, old) =
          λ i. (set_annotations_at t p us, unwrap_or (e i) us) in
          ap (annotations_swapped p) once
          ∙ (λ i. (putting_annotations_back t us old p e i, unwrap_or (set_annotations_are_there t us old p e i) old))
    ] refl

with_annotations-with_annotations : (t : Tree) (us vs : List Tree)
    → with_annotations (with_annotations t us) vs ≡ with_annotations t vs
with_annotations-with_annotations (integer z notes) us vs = refl
with_annotations-with_annotations (branch head kids notes) us vs = refl

-- ---- the last set

pub last_set_stays : LastSetStays
last_set_stays t u v p =
    ap (λ s. set_at s p v) (set_at-changed t u p)
    ∙ set_at-changed (changed_at (λ _. u) t p) v p
    ∙ changed_at-changed_at (λ _. u) (λ _. v) t p
    ∙ sym (set_at-changed t v p)

pub last_annotations_stay : LastAnnotationsStay
last_annotations_stay t us vs p =
    ap (λ s. set_annotations_at s p vs) (set_annotations_at-changed t us p)
    ∙ set_annotations_at-changed (changed_at (λ u. with_annotations u us) t p) vs p
    ∙ changed_at-changed_at (λ u. with_annotations u us) (λ u. with_annotations u vs) t p
    ∙ (λ i. changed_at (λ u. with_annotations-with_annotations u us vs i) t p)
    ∙ sym (set_annotations_at-changed t vs p)

pub subterm_after_annotations : SubtermAfterAnnotations
subterm_after_annotations t u us p =
    ap (λ s. set_at s p u) (set_annotations_at-changed t us p)
    ∙ set_at-changed (changed_at (λ v. with_annotations v us) t p) u p
    ∙ changed_at-changed_at (λ v. with_annotations v us) (λ _. u) t p
    ∙ sym (set_at-changed t u p)

-- ---- concatenated paths

pub set_after : SetAfter
set_after t u v p q e =
    set_at-changed t v (p ++ q) ∙ changed_at-append (λ _. v) t u p q e
    ∙ sym (set_at-changed t (changed_at (λ _. v) u q) p) ∙ ap (set_at t p) (sym (set_at-changed u v q))

pub set_annotations_after : SetAnnotationsAfter
set_annotations_after t u notes p q e =
    set_annotations_at-changed t notes (p ++ q) ∙ changed_at-append (λ w. with_annotations w notes) t u p q e
    ∙ sym (set_at-changed t (changed_at (λ w. with_annotations w notes) u q) p)
    ∙ ap (set_at t p) (sym (set_annotations_at-changed u notes q))
