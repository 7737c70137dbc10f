-- Changes at disjoint paths.
use Rattle.std.proofs.Common.{◌≡◌, ℕ, List, [], ◌∷◌, set, refl, sym, ap, ◌∙◌, zero, suc, Some, None, option_and_then, inl, inr}
use Rattle.std.specs.List.{slice_get}
use Rattle.std.proofs.lemmas.Bool.{cases_eq}
use Rattle.std.proofs.lemmas.List.{set_comm}
use Rattle.term_core.specs.Tree.{Tree, integer, branch, to_list, of_list, children, with_child, with_annotations}
use Rattle.term_core.proofs.TreeLemmas.{to_list-of_list}
use Rattle.term_paths.specs.Paths.{at, set_at, set_annotations_at}
use Rattle.term_paths.specs.Laws.{AreApart, ApartIsLeft, ApartIsLeftByAnnotations, ApartCommute, ApartAnnotationsCommute, ApartMixedCommute}
use Rattle.term_paths.proofs.PathLemmas.{changed_at, set_at-changed, set_annotations_at-changed, at-child, changed_at-child, changed_at-no_child, child-with_child, with_child-with_child}

-- ---- two children

abbrev Differ : ℕ → ℕ → Type 0
Differ i j = i ≡ j → ⊥

set_other : (us : List Tree) (i j : ℕ) (u : Tree) → Differ i j → slice_get (set us i u) j ≡ slice_get us j
set_other [] i j u h = refl
set_other (x ∷ us) zero zero u h = absurd (h refl)
set_other (x ∷ us) zero (suc j) u h = refl
set_other (x ∷ us) (suc i) zero u h = refl
set_other (x ∷ us) (suc i) (suc j) u h = set_other us i j u (λ e. h (ap suc e))

other_child : (t : Tree) (i j : ℕ) (u : Tree) → Differ i j
    → slice_get (children (with_child t i u)) j ≡ slice_get (children t) j
other_child (integer z notes) i j u h = refl
other_child (branch head kids notes) i j u h = ap (λ l. slice_get l j) (to_list-of_list (set (to_list kids) i u))
    ∙ set_other (to_list kids) i j u h

with_child_comm : (t : Tree) (i j : ℕ) (u v : Tree) → Differ i j
    → with_child (with_child t i u) j v ≡ with_child (with_child t j v) i u
with_child_comm (integer z notes) i j u v h = refl
with_child_comm (branch head kids notes) i j u v h =
    ap (λ l. branch head (of_list l) notes)
    (ap (λ l. set l j v) (to_list-of_list (set (to_list kids) i u))
    ∙ set_comm (to_list kids) i j u v h
    ∙ ap (λ l. set l i u) (sym (to_list-of_list (set (to_list kids) j v))))

-- ---- paths that part at the root, or further down

apart_below : (i j : ℕ) (p q : List ℕ) → i ≡ j → AreApart (i ∷ p) (j ∷ q) → AreApart p q
apart_below i j p q e h =
    (λ w. h.0 (w.0, λ k. e k ∷ w.1 k), λ w. h.1 (w.0, λ k. sym e k ∷ w.1 k))

-- a change below child i doesn't change what is below another child
at_other : (f : Tree → Tree) (t : Tree) (i j : ℕ) (p q : List ℕ) → Differ i j
    → at (changed_at f t (i ∷ p)) (j ∷ q) ≡ at t (j ∷ q)
at_other f t i j p q h =
    elim (slice_get (children t) i) as (λ o.
    slice_get (children t) i ≡ o → at (changed_at f t (i ∷ p)) (j ∷ q) ≡ at t (j ∷ q)) [
      | None ↦ λ is. ap (λ s. at s (j ∷ q)) (changed_at-no_child f t i p is)
      | Some kid ↦ λ is. ap (λ s. at s (j ∷ q)) (changed_at-child f t kid i p is)
          ∙ ap (option_and_then (λ k. at k q)) (other_child t i j (changed_at f kid p) h)
    ] refl

pub at-apart : (f : Tree → Tree) (t : Tree) (p q : List ℕ) → AreApart p q → at (changed_at f t p) q ≡ at t q
at-apart f t [] q h = absurd (h.1 (q, refl))
at-apart f t (i ∷ p) [] h = absurd (h.0 (i ∷ p, refl))
at-apart f t (i ∷ p) (j ∷ q) h =
    elim (cases_eq i j) [
      | inr differ ↦ at_other f t i j p q differ
      | inl same ↦
          ap (λ k. at (changed_at f t (i ∷ p)) (k ∷ q)) (sym same)
          ∙ (elim (slice_get (children t) i) as (λ o.
          slice_get (children t) i ≡ o → at (changed_at f t (i ∷ p)) (i ∷ q) ≡ at t (i ∷ q)) [
            | None ↦ λ is. ap (λ s. at s (i ∷ q)) (changed_at-no_child f t i p is)
            | Some kid ↦ λ is. ap (λ s. at s (i ∷ q)) (changed_at-child f t kid i p is)
                ∙ at-child (with_child t i (changed_at f kid p)) (changed_at f kid p) i q
                (child-with_child t i kid (changed_at f kid p) is)
                ∙ at-apart f kid p q (apart_below i j p q same h)
                ∙ sym (at-child t kid i q is)
          ] refl)
          ∙ ap (λ k. at t (k ∷ q)) same
    ]

-- ---- either order

-- below two children
order_other : (f g : Tree → Tree) (t : Tree) (i j : ℕ) (p q : List ℕ) → Differ i j
    → changed_at g (changed_at f t (i ∷ p)) (j ∷ q) ≡ changed_at f (changed_at g t (j ∷ q)) (i ∷ p)
order_other f g t i j p q h =
    elim (slice_get (children t) i) as (λ o. slice_get (children t) i
    ≡ o → changed_at g (changed_at f t (i ∷ p)) (j ∷ q) ≡ changed_at f (changed_at g t (j ∷ q)) (i ∷ p)) [
      | None ↦ λ is. elim (slice_get (children t) j) as (λ o. slice_get (children t) j
          ≡ o → changed_at g (changed_at f t (i ∷ p)) (j ∷ q) ≡ changed_at f (changed_at g t (j ∷ q)) (i ∷ p)) [
            | None ↦ λ js.
                ap (λ s. changed_at g s (j ∷ q)) (changed_at-no_child f t i p is) ∙ changed_at-no_child g t j q js
                ∙ sym
                (ap (λ s. changed_at f s (i ∷ p)) (changed_at-no_child g t j q js) ∙ changed_at-no_child f t i p is)
            | Some b ↦ λ js. let new = changed_at g b q in
                ap (λ s. changed_at g s (j ∷ q)) (changed_at-no_child f t i p is) ∙ changed_at-child g t b j q js
                ∙ sym (ap (λ s. changed_at f s (i ∷ p)) (changed_at-child g t b j q js)
                ∙ changed_at-no_child f (with_child t j new) i p (other_child t j i new (λ e. h (sym e)) ∙ is))
          ] refl
      | Some a ↦ λ is. elim (slice_get (children t) j) as (λ o. slice_get (children t) j
          ≡ o → changed_at g (changed_at f t (i ∷ p)) (j ∷ q) ≡ changed_at f (changed_at g t (j ∷ q)) (i ∷ p)) [
            | None ↦ λ js. let new = changed_at f a p in
                ap (λ s. changed_at g s (j ∷ q)) (changed_at-child f t a i p is)
                ∙ changed_at-no_child g (with_child t i new) j q (other_child t i j new h ∙ js)
                ∙ sym
                (ap (λ s. changed_at f s (i ∷ p)) (changed_at-no_child g t j q js) ∙ changed_at-child f t a i p is)
            | Some b ↦ λ js. let left = changed_at f a p in let right = changed_at g b q in
                ap (λ s. changed_at g s (j ∷ q)) (changed_at-child f t a i p is)
                ∙ changed_at-child g (with_child t i left) b j q (other_child t i j left h ∙ js)
                ∙ with_child_comm t i j left right h
                ∙ sym (ap (λ s. changed_at f s (i ∷ p)) (changed_at-child g t b j q js)
                ∙ changed_at-child f (with_child t j right) a i p (other_child t j i right (λ e. h (sym e)) ∙ is))
          ] refl
    ] refl

pub order-apart : (f g : Tree → Tree) (t : Tree) (p q : List ℕ) → AreApart p q
    → changed_at g (changed_at f t p) q ≡ changed_at f (changed_at g t q) p
order-apart f g t [] q h = absurd (h.1 (q, refl))
order-apart f g t (i ∷ p) [] h = absurd (h.0 (i ∷ p, refl))
order-apart f g t (i ∷ p) (j ∷ q) h =
    elim (cases_eq i j) [
      | inr differ ↦ order_other f g t i j p q differ
      | inl same ↦
          ap (λ k. changed_at g (changed_at f t (i ∷ p)) (k ∷ q)) (sym same)
          ∙ (elim (slice_get (children t) i) as (λ o. slice_get (children t) i
          ≡ o → changed_at g (changed_at f t (i ∷ p)) (i ∷ q) ≡ changed_at f (changed_at g t (i ∷ q)) (i ∷ p)) [
            | None ↦ λ is.
                ap (λ s. changed_at g s (i ∷ q)) (changed_at-no_child f t i p is) ∙ changed_at-no_child g t i q is
                ∙ sym
                (ap (λ s. changed_at f s (i ∷ p)) (changed_at-no_child g t i q is) ∙ changed_at-no_child f t i p is)
            | Some kid ↦ λ is. let left = changed_at f kid p in let right = changed_at g kid q in
                ap (λ s. changed_at g s (i ∷ q)) (changed_at-child f t kid i p is)
                ∙ changed_at-child g (with_child t i left) left i q (child-with_child t i kid left is)
                ∙ with_child-with_child t i left (changed_at g left q)
                ∙ ap (with_child t i) (order-apart f g kid p q (apart_below i j p q same h))
                ∙ sym (ap (λ s. changed_at f s (i ∷ p)) (changed_at-child g t kid i q is)
                ∙ changed_at-child f (with_child t i right) right i p (child-with_child t i kid right is)
                ∙ with_child-with_child t i right (changed_at f right p))
          ] refl)
          ∙ ap (λ k. changed_at f (changed_at g t (k ∷ q)) (i ∷ p)) same
    ]

-- ---- the laws

pub apart_is_left : ApartIsLeft
apart_is_left t u p q h = ap (λ s. at s q) (set_at-changed t u p) ∙ at-apart (λ _. u) t p q h

pub apart_commute : ApartCommute
apart_commute t u v p q h =
    ap (λ s. set_at s q v) (set_at-changed t u p) ∙ set_at-changed (changed_at (λ _. u) t p) v q
    ∙ order-apart (λ _. u) (λ _. v) t p q h
    ∙ sym (ap (λ s. set_at s p u) (set_at-changed t v q) ∙ set_at-changed (changed_at (λ _. v) t q) u p)

pub apart_is_left_by_annotations : ApartIsLeftByAnnotations
apart_is_left_by_annotations t us p q h = ap (λ s. at s q) (set_annotations_at-changed t us p)
    ∙ at-apart (λ u. with_annotations u us) t p q h

pub apart_annotations_commute : ApartAnnotationsCommute
apart_annotations_commute t us vs p q h =
    ap (λ s. set_annotations_at s q vs) (set_annotations_at-changed t us p)
    ∙ set_annotations_at-changed (changed_at (λ u. with_annotations u us) t p) vs q
    ∙ order-apart (λ u. with_annotations u us) (λ u. with_annotations u vs) t p q h
    ∙ sym (ap (λ s. set_annotations_at s p us) (set_annotations_at-changed t vs q)
    ∙ set_annotations_at-changed (changed_at (λ u. with_annotations u vs) t q) us p)

pub apart_mixed_commute : ApartMixedCommute
apart_mixed_commute t u vs p q h =
    ap (λ s. set_annotations_at s q vs) (set_at-changed t u p)
    ∙ set_annotations_at-changed (changed_at (λ _. u) t p) vs q
    ∙ order-apart (λ _. u) (λ v. with_annotations v vs) t p q h
    ∙ sym (ap (λ s. set_at s p u) (set_annotations_at-changed t vs q)
    ∙ set_at-changed (changed_at (λ v. with_annotations v vs) t q) u p)
