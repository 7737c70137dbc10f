-- Reading and setting at paths.
use Rattle.std.proofs.Common.{◌≡◌, ℕ, List, [], ◌∷◌, ◌++◌, set, refl, sym, ap, ◌∙◌, zero, suc, Some, None, option_and_then, option_map}
use Rattle.std.specs.List.{slice_get}
use Rattle.std.specs.Option.{option_map_or}
use Rattle.std.proofs.lemmas.List.{set-set}
use Rattle.term_core.specs.Tree.{Tree, integer, branch, to_list, of_list, children, with_child, with_annotations}
use Rattle.term_core.proofs.TreeLemmas.{to_list-of_list, of_list-to_list}
use Rattle.term_paths.specs.Paths.{at, set_at, set_annotations_at}

-- ---- one child

-- if there is no child i, nothing changes
pub slice_get-set : (us : List Tree) (i : ℕ) (kid u : Tree) → slice_get us i ≡ Some kid
    → slice_get (set us i u) i ≡ Some u
slice_get-set [] i kid u e = absurd (cc)
slice_get-set (x ∷ us) zero kid u e = refl
slice_get-set (x ∷ us) (suc i) kid u e = slice_get-set us i kid u e

pub set_same : (us : List Tree) (i : ℕ) (kid : Tree) → slice_get us i ≡ Some kid → set us i kid ≡ us
set_same [] i kid e = refl
set_same (x ∷ us) zero kid e = let same : x ≡ kid = cc in ap (λ y. y ∷ us) (sym same)
set_same (x ∷ us) (suc i) kid e = ap (λ l. x ∷ l) (set_same us i kid e)

pub with_child-same : (t : Tree) (i : ℕ) (kid : Tree) → slice_get (children t) i ≡ Some kid → with_child t i kid ≡ t
with_child-same (integer z notes) i kid e = refl
with_child-same (branch head kids notes) i kid e =
    ap (λ l. branch head l notes) (ap of_list (set_same (to_list kids) i kid e) ∙ of_list-to_list kids)

pub child-with_child : (t : Tree) (i : ℕ) (kid u : Tree) → slice_get (children t) i ≡ Some kid
    → slice_get (children (with_child t i u)) i ≡ Some u
child-with_child (integer z notes) i kid u e = absurd (cc)
child-with_child (branch head kids notes) i kid u e = ap (λ l. slice_get l i) (to_list-of_list (set (to_list kids) i u))
    ∙ slice_get-set (to_list kids) i kid u e

pub with_child-with_child : (t : Tree) (i : ℕ) (u v : Tree) → with_child (with_child t i u) i v ≡ with_child t i v
with_child-with_child (integer z notes) i u v = refl
with_child-with_child (branch head kids notes) i u v = ap (λ l. branch head (of_list l) notes)
    (ap (λ l. set l i v) (to_list-of_list (set (to_list kids) i u)) ∙ set-set (to_list kids) i u v)

-- ---- any change of the subterm at a path; `set_at` and `set_annotations_at` are two

abbrev pub changed_at : (Tree → Tree) → Tree → List ℕ → Tree
changed_at f t [] = f t
changed_at f t (i ∷ p) = option_map_or (λ kid. with_child t i (changed_at f kid p)) (slice_get (children t) i) t

pub set_at-changed : (t u : Tree) (p : List ℕ) → set_at t p u ≡ changed_at (λ _. u) t p
set_at-changed t u [] = refl
set_at-changed t u (i ∷ p) =
    elim (slice_get (children t) i) as (λ o. option_map_or (λ kid. with_child t i (set_at kid p u)) o t
    ≡ option_map_or (λ kid. with_child t i (changed_at (λ _. u) kid p)) o t) [
      | None ↦ refl
      | Some kid ↦ ap (with_child t i) (set_at-changed kid u p)
    ]

pub set_annotations_at-changed : (t : Tree) (notes : List Tree) (p : List ℕ)
    → set_annotations_at t p notes ≡ changed_at (λ u. with_annotations u notes) t p
set_annotations_at-changed t notes [] = refl
set_annotations_at-changed t notes (i ∷ p) =
    elim (slice_get (children t) i) as (λ o. option_map_or (λ kid. with_child t i (set_annotations_at kid p notes)) o t
    ≡ option_map_or (λ kid. with_child t i (changed_at (λ u. with_annotations u notes) kid p)) o t) [
      | None ↦ refl
      | Some kid ↦ ap (with_child t i) (set_annotations_at-changed kid notes p)
    ]

-- one step down
pub at-child : (t kid : Tree) (i : ℕ) (p : List ℕ) → slice_get (children t) i ≡ Some kid → at t (i ∷ p) ≡ at kid p
at-child t kid i p e = ap (option_and_then (λ k. at k p)) e

pub at-no_child : (t : Tree) (i : ℕ) (p : List ℕ) → slice_get (children t) i ≡ None → at t (i ∷ p) ≡ None
at-no_child t i p e = ap (option_and_then (λ k. at k p)) e

pub changed_at-child : (f : Tree → Tree) (t kid : Tree) (i : ℕ) (p : List ℕ) → slice_get (children t) i ≡ Some kid
    → changed_at f t (i ∷ p) ≡ with_child t i (changed_at f kid p)
changed_at-child f t kid i p e = ap (λ o. option_map_or (λ k. with_child t i (changed_at f k p)) o t) e

pub changed_at-no_child : (f : Tree → Tree) (t : Tree) (i : ℕ) (p : List ℕ)
    → slice_get (children t) i ≡ None → changed_at f t (i ∷ p) ≡ t
changed_at-no_child f t i p e = ap (λ o. option_map_or (λ k. with_child t i (changed_at f k p)) o t) e

pub set_at-child : (t kid u : Tree) (i : ℕ) (p : List ℕ) → slice_get (children t) i ≡ Some kid
    → set_at t (i ∷ p) u ≡ with_child t i (set_at kid p u)
set_at-child t kid u i p e = ap (λ o. option_map_or (λ k. with_child t i (set_at k p u)) o t) e

pub set_annotations_at-child : (t kid : Tree) (notes : List Tree) (i : ℕ) (p : List ℕ) → slice_get (children t) i
    ≡ Some kid → set_annotations_at t (i ∷ p) notes ≡ with_child t i (set_annotations_at kid p notes)
set_annotations_at-child t kid notes i p e =
    ap (λ o. option_map_or (λ k. with_child t i (set_annotations_at k p notes)) o t) e

-- the changed subterm is there
pub at-changed_at : (f : Tree → Tree) (t old : Tree) (p : List ℕ) → at t p ≡ Some old
    → at (changed_at f t p) p ≡ Some (f old)
at-changed_at f t old [] e = ap (option_map f) e
at-changed_at f t old (i ∷ p) e =
    elim (slice_get (children t) i) as (λ o.
    slice_get (children t) i ≡ o → at (changed_at f t (i ∷ p)) (i ∷ p) ≡ Some (f old)) [
      | None ↦ λ is. absurd (let no = sym (at-no_child t i p is) ∙ e in cc)
      | Some kid ↦ λ is. ap (λ s. at s (i ∷ p)) (changed_at-child f t kid i p is)
          ∙ at-child (with_child t i (changed_at f kid p)) (changed_at f kid p) i p
          (child-with_child t i kid (changed_at f kid p) is)
          ∙ at-changed_at f kid old p (sym (at-child t kid i p is) ∙ e)
    ] refl

-- two changes at one path amount to one
pub changed_at-changed_at : (f g : Tree → Tree) (t : Tree) (p : List ℕ)
    → changed_at g (changed_at f t p) p ≡ changed_at (λ u. g (f u)) t p
changed_at-changed_at f g t [] = refl
changed_at-changed_at f g t (i ∷ p) =
    elim (slice_get (children t) i) as (λ o. slice_get (children t) i
    ≡ o → changed_at g (changed_at f t (i ∷ p)) (i ∷ p) ≡ changed_at (λ u. g (f u)) t (i ∷ p)) [
      | None ↦ λ is. ap (λ s. changed_at g s (i ∷ p)) (changed_at-no_child f t i p is)
          ∙ changed_at-no_child g t i p is ∙ sym (changed_at-no_child (λ u. g (f u)) t i p is)
      | Some kid ↦ λ is. let below = changed_at f kid p in
          ap (λ s. changed_at g s (i ∷ p)) (changed_at-child f t kid i p is)
          ∙ changed_at-child g (with_child t i below) below i p (child-with_child t i kid below is)
          ∙ with_child-with_child t i below (changed_at g below p)
          ∙ ap (with_child t i) (changed_at-changed_at f g kid p)
          ∙ sym (changed_at-child (λ u. g (f u)) t kid i p is)
    ] refl

-- a change that leaves the subterm unchanged leaves the tree unchanged
pub changed_at-same : (f : Tree → Tree) (t old : Tree) (p : List ℕ) → at t p ≡ Some old
    → f old ≡ old → changed_at f t p ≡ t
changed_at-same f t old [] e same = let is : t ≡ old = cc in ap f is ∙ same ∙ sym is
changed_at-same f t old (i ∷ p) e same =
    elim (slice_get (children t) i) as (λ o. slice_get (children t) i ≡ o → changed_at f t (i ∷ p) ≡ t) [
      | None ↦ λ is. changed_at-no_child f t i p is
      | Some kid ↦ λ is. changed_at-child f t kid i p is
          ∙ ap (with_child t i) (changed_at-same f kid old p (sym (at-child t kid i p is) ∙ e) same)
          ∙ with_child-same t i kid is
    ] refl

-- if the path leads nowhere, nothing changes
pub changed_at-nowhere : (f : Tree → Tree) (t : Tree) (p : List ℕ) → at t p ≡ None → changed_at f t p ≡ t
changed_at-nowhere f t [] e = absurd (cc)
changed_at-nowhere f t (i ∷ p) e =
    elim (slice_get (children t) i) as (λ o. slice_get (children t) i ≡ o → changed_at f t (i ∷ p) ≡ t) [
      | None ↦ λ is. changed_at-no_child f t i p is
      | Some kid ↦ λ is. changed_at-child f t kid i p is
          ∙ ap (with_child t i) (changed_at-nowhere f kid p (sym (at-child t kid i p is) ∙ e))
          ∙ with_child-same t i kid is
    ] refl

-- a change at a concatenated path changes the subterm that the first part leads to
pub changed_at-append : (f : Tree → Tree) (t u : Tree) (p q : List ℕ) → at t p ≡ Some u
    → changed_at f t (p ++ q) ≡ changed_at (λ _. changed_at f u q) t p
changed_at-append f t u [] q e = let is : t ≡ u = cc in ap (λ s. changed_at f s q) is
changed_at-append f t u (i ∷ p) q e =
    elim (slice_get (children t) i) as (λ o.
    slice_get (children t) i ≡ o → changed_at f t (i ∷ (p ++ q)) ≡ changed_at (λ _. changed_at f u q) t (i ∷ p)) [
      | None ↦ λ is. absurd (let no = sym (at-no_child t i p is) ∙ e in cc)
      | Some kid ↦ λ is. changed_at-child f t kid i (p ++ q) is
          ∙ ap (with_child t i) (changed_at-append f kid u p q (sym (at-child t kid i p is) ∙ e))
          ∙ sym (changed_at-child (λ _. changed_at f u q) t kid i p is)
    ] refl

pub at-append : (t : Tree) (p q : List ℕ) → at t (p ++ q) ≡ option_and_then (λ u. at u q) (at t p)
at-append t [] q = refl
at-append t (i ∷ p) q =
    elim (slice_get (children t) i) as (λ o.
    option_and_then (λ k. at k (p ++ q)) o ≡ option_and_then (λ u. at u q) (option_and_then (λ k. at k p) o)) [
      | None ↦ refl
      | Some kid ↦ at-append kid p q
    ]
