-- Changes at a path and at paths that lie within it.
use Rattle.std.proofs.Common.{◌≡◌, ℕ, List, ◌∷◌, ◌++◌, refl, sym, ap, ◌∙◌, Some, None, is_some, option_and_then}
use Rattle.std.specs.List.{slice_get}
use Rattle.std.specs.Option.{option_map_or}
use Rattle.term_core.specs.Tree.{Tree, integer, branch, to_list, with_child, with_annotations}
use Rattle.term_paths.specs.Paths.{at, leads, set_at, set_annotations_at}
use Rattle.term_paths.specs.Laws.{SetAround, SetAroundAnnotations, SetInside, SetAnnotationsInside, LeadsAround, LeadsAroundAnnotations, BelowIsLeftByAnnotations, AnnotationsAndBelowCommute, AnnotationsBelowCommute}
use Rattle.term_paths.proofs.PathLemmas.{changed_at, set_at-changed, set_annotations_at-changed, at-changed_at, changed_at-changed_at, changed_at-nowhere, changed_at-append, at-append}

-- if a path leads nowhere, neither do those within it
nowhere_within : (t : Tree) (p q : List ℕ) → at t p ≡ None → at t (p ++ q) ≡ None
nowhere_within t p q e = at-append t p q ∙ ap (option_and_then (λ u. at u q)) e

unchanged_within : (f : Tree → Tree) (t : Tree) (p q : List ℕ) → at t p ≡ None → changed_at f t (p ++ q) ≡ t
unchanged_within f t p q e = changed_at-nowhere f t (p ++ q) (nowhere_within t p q e)

-- ---- any change within

around : (f : Tree → Tree) (t u : Tree) (p q : List ℕ)
    → changed_at (λ _. u) (changed_at f t (p ++ q)) p ≡ changed_at (λ _. u) t p
around f t u p q =
    elim (at t p) as (λ o. at t p ≡ o → changed_at (λ _. u) (changed_at f t (p ++ q)) p ≡ changed_at (λ _. u) t p) [
      | None ↦ λ e. ap (λ s. changed_at (λ _. u) s p) (unchanged_within f t p q e)
      | Some w ↦ λ e.
          ap (λ s. changed_at (λ _. u) s p) (changed_at-append f t w p q e)
          ∙ changed_at-changed_at (λ _. changed_at f w q) (λ _. u) t p
    ] refl

inside : (f : Tree → Tree) (t u : Tree) (p q : List ℕ)
    → changed_at f (changed_at (λ _. u) t p) (p ++ q) ≡ changed_at (λ _. changed_at f u q) t p
inside f t u p q =
    elim (at t p) as (λ o.
    at t p ≡ o → changed_at f (changed_at (λ _. u) t p) (p ++ q) ≡ changed_at (λ _. changed_at f u q) t p) [
      | None ↦ λ e.
          ap (λ s. changed_at f s (p ++ q)) (changed_at-nowhere (λ _. u) t p e)
          ∙ unchanged_within f t p q e
          ∙ sym (changed_at-nowhere (λ _. changed_at f u q) t p e)
      | Some w ↦ λ e.
          changed_at-append f (changed_at (λ _. u) t p) u p q (at-changed_at (λ _. u) t w p e)
          ∙ changed_at-changed_at (λ _. u) (λ _. changed_at f u q) t p
    ] refl

leads_around : (f : Tree → Tree) (t : Tree) (p q : List ℕ) → leads (changed_at f t (p ++ q)) p ≡ leads t p
leads_around f t p q =
    elim (at t p) as (λ o. at t p ≡ o → leads (changed_at f t (p ++ q)) p ≡ leads t p) [
      | None ↦ λ e. ap (λ s. leads s p) (unchanged_within f t p q e)
      | Some w ↦ λ e.
          ap (λ s. leads s p) (changed_at-append f t w p q e)
          ∙ ap is_some (at-changed_at (λ _. changed_at f w q) t w p e)
          ∙ sym (ap is_some e)
    ] refl

-- ---- annotations

-- annotations and children are independent
annotated_at : (t : Tree) (notes : List Tree) (q : List ℕ) (i : ℕ)
    → at (with_annotations t notes) (i ∷ q) ≡ at t (i ∷ q)
annotated_at (integer z own) notes q i = refl
annotated_at (branch head kids own) notes q i = refl

annotated_child : (f : Tree → Tree) (t : Tree) (notes : List Tree) (q : List ℕ) (i : ℕ)
    → with_annotations (changed_at f t (i ∷ q)) notes ≡ changed_at f (with_annotations t notes) (i ∷ q)
annotated_child f (integer z own) notes q i = refl
annotated_child f (branch head kids own) notes q i =
    elim (slice_get (to_list kids) i) as (λ o.
    with_annotations
    (option_map_or (λ kid. with_child (branch head kids own) i (changed_at f kid q)) o (branch head kids own)) notes
    ≡ option_map_or (λ kid. with_child (with_annotations (branch head kids own) notes) i (changed_at f kid q)) o
    (with_annotations (branch head kids own) notes)) [
      | None ↦ refl
      | Some kid ↦ refl
    ]

annotations_and_below : (f : Tree → Tree) (t : Tree) (notes : List Tree) (p q : List ℕ) (i : ℕ)
    → changed_at (λ u. with_annotations u notes) (changed_at f t (p ++ i ∷ q)) p
    ≡ changed_at f (changed_at (λ u. with_annotations u notes) t p) (p ++ i ∷ q)
annotations_and_below f t notes p q i =
    let bears : Tree → Tree = λ u. with_annotations u notes in
    elim (at t p) as (λ o.
    at t p ≡ o → changed_at bears (changed_at f t (p ++ i ∷ q)) p ≡ changed_at f (changed_at bears t p) (p ++ i ∷ q)) [
      | None ↦ λ e.
          ap (λ s. changed_at bears s p) (unchanged_within f t p (i ∷ q) e)
          ∙ changed_at-nowhere bears t p e
          ∙ sym
          (ap (λ s. changed_at f s (p ++ i ∷ q)) (changed_at-nowhere bears t p e) ∙ unchanged_within f t p (i ∷ q) e)
      | Some w ↦ λ e.
          ap (λ s. changed_at bears s p) (changed_at-append f t w p (i ∷ q) e)
          ∙ changed_at-changed_at (λ _. changed_at f w (i ∷ q)) bears t p
          ∙ (λ j. changed_at (λ _. annotated_child f w notes q i j) t p)
          ∙ sym (changed_at-append f (changed_at bears t p) (bears w) p (i ∷ q) (at-changed_at bears t w p e)
          ∙ changed_at-changed_at bears (λ _. changed_at f (bears w) (i ∷ q)) t p)
    ] refl

-- ---- the laws

pub set_around : SetAround
set_around t u v p q =
    ap (λ s. set_at s p u) (set_at-changed t v (p ++ q)) ∙ set_at-changed (changed_at (λ _. v) t (p ++ q)) u p
    ∙ around (λ _. v) t u p q ∙ sym (set_at-changed t u p)

pub set_around_annotations : SetAroundAnnotations
set_around_annotations t u notes p q =
    ap (λ s. set_at s p u) (set_annotations_at-changed t notes (p ++ q))
    ∙ set_at-changed (changed_at (λ w. with_annotations w notes) t (p ++ q)) u p
    ∙ around (λ w. with_annotations w notes) t u p q ∙ sym (set_at-changed t u p)

pub set_inside : SetInside
set_inside t u v p q =
    ap (λ s. set_at s (p ++ q) v) (set_at-changed t u p) ∙ set_at-changed (changed_at (λ _. u) t p) v (p ++ q)
    ∙ inside (λ _. v) t u p q
    ∙ sym (set_at-changed t (changed_at (λ _. v) u q) p) ∙ ap (set_at t p) (sym (set_at-changed u v q))

pub set_annotations_inside : SetAnnotationsInside
set_annotations_inside t u notes p q =
    ap (λ s. set_annotations_at s (p ++ q) notes) (set_at-changed t u p)
    ∙ set_annotations_at-changed (changed_at (λ _. u) t p) notes (p ++ q)
    ∙ inside (λ w. with_annotations w notes) t u p q
    ∙ sym (set_at-changed t (changed_at (λ w. with_annotations w notes) u q) p)
    ∙ ap (set_at t p) (sym (set_annotations_at-changed u notes q))

pub leads_around_subterm : LeadsAround
leads_around_subterm t v p q = ap (λ s. leads s p) (set_at-changed t v (p ++ q)) ∙ leads_around (λ _. v) t p q

pub leads_around_annotations : LeadsAroundAnnotations
leads_around_annotations t notes p q =
    ap (λ s. leads s p)
    (set_annotations_at-changed t notes (p ++ q)) ∙ leads_around (λ w. with_annotations w notes) t p q

pub below_is_left_by_annotations : BelowIsLeftByAnnotations
below_is_left_by_annotations t notes p q i =
    let bears : Tree → Tree = λ u. with_annotations u notes in
    ap (λ s. at s (p ++ i ∷ q)) (set_annotations_at-changed t notes p)
    ∙ (elim (at t p) as (λ o. at t p ≡ o → at (changed_at bears t p) (p ++ i ∷ q) ≡ at t (p ++ i ∷ q)) [
      | None ↦ λ e. ap (λ s. at s (p ++ i ∷ q)) (changed_at-nowhere bears t p e)
      | Some w ↦ λ e.
          at-append (changed_at bears t p) p (i ∷ q)
          ∙ ap (option_and_then (λ u. at u (i ∷ q))) (at-changed_at bears t w p e)
          ∙ annotated_at w notes q i
          ∙ sym (at-append t p (i ∷ q) ∙ ap (option_and_then (λ u. at u (i ∷ q))) e)
    ] refl)

pub annotations_and_below_commute : AnnotationsAndBelowCommute
annotations_and_below_commute t u notes p q i =
    ap (λ s. set_annotations_at s p notes) (set_at-changed t u (p ++ i ∷ q))
    ∙ set_annotations_at-changed (changed_at (λ _. u) t (p ++ i ∷ q)) notes p
    ∙ annotations_and_below (λ _. u) t notes p q i
    ∙ sym (ap (λ s. set_at s (p ++ i ∷ q) u) (set_annotations_at-changed t notes p)
    ∙ set_at-changed (changed_at (λ w. with_annotations w notes) t p) u (p ++ i ∷ q))

pub annotations_below_commute : AnnotationsBelowCommute
annotations_below_commute t notes below p q i =
    ap (λ s. set_annotations_at s p notes) (set_annotations_at-changed t below (p ++ i ∷ q))
    ∙ set_annotations_at-changed (changed_at (λ w. with_annotations w below) t (p ++ i ∷ q)) notes p
    ∙ annotations_and_below (λ w. with_annotations w below) t notes p q i
    ∙ sym (ap (λ s. set_annotations_at s (p ++ i ∷ q) below) (set_annotations_at-changed t notes p)
    ∙ set_annotations_at-changed (changed_at (λ w. with_annotations w notes) t p) below (p ++ i ∷ q))
