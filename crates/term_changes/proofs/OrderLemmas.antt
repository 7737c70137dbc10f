-- The places of a patch, set and looked at in any order.
use Rattle.std.proofs.Common.{◌≡◌, ℕ, ◌+◌, ◌≤◌, List, [], ◌∷◌, ◌++◌, length, slice_get, Some, None, refl, sym, ap, subst, ◌∙◌, arith, append_assoc, length-append}
use Rattle.std.specs.Prelude.{unwrap_or, option_and_then}
use Rattle.std.proofs.lemmas.Option.{slice_get_past}
use Rattle.term_core.specs.Tree.{Tree, children}
use Rattle.term_paths.specs.Paths.{at, set_at}
use Rattle.term_paths.proofs.ApartLemmas.{apart_is_left, apart_commute}
use Rattle.term_paths.specs.Edits.{Edits, prefixed, edited}
use Rattle.term_changes.specs.Change.{Change, same, inside, replaced, Changes, no_more, and_then, below, places, places_from}
use Rattle.term_changes.specs.Putting.{ApartFromAll, AllApart}
use Rattle.term_changes.proofs.ApartLemmas.{places_lie_apart}
use Rattle.term_changes.proofs.PlacesMade.{put_places, get_seam}
use Rattle.term_changes.specs.Exchange.{taken, taken_all}
use Rattle.term_changes.specs.PatchLaws.{found_at, all_found, edited_back, TakenIsThere, EitherOrder}

-- ---- what is there

found-append : (e f : Edits) (t : Tree) → all_found t (e ++ f) ≡ all_found t e ++ all_found t f
found-append [] f t = refl
found-append (x ∷ e) f t = ap (λ l. found_at t x ∷ l) (found-append e f t)

found-below : (e : Edits) (t kid : Tree) (i : ℕ) → slice_get (children t) i ≡ Some kid
    → all_found t (below i e) ≡ below i (all_found kid e)
found-below [] t kid i h = refl
found-below (x ∷ e) t kid i h =
    λ j. record { path = i ∷ x.path; new = unwrap_or (option_and_then (λ k. at k x.path) (h j)) x.new }
    ∷ found-below e t kid i h j

found-no_child : (e : Edits) (t : Tree) (i : ℕ) → slice_get (children t) i ≡ None → all_found t (below i e) ≡ below i e
found-no_child [] t i h = refl
found-no_child (x ∷ e) t i h =
    λ j. record { path = i ∷ x.path; new = unwrap_or (option_and_then (λ k. at k x.path) (h j)) x.new }
    ∷ found-no_child e t i h j

found-past : (cs : Changes) (t : Tree) (i : ℕ)
    → length (children t) ≤ i → all_found t (places_from i cs) ≡ places_from i cs
found-past no_more t i h = refl
found-past (and_then c cs) t i h =
    found-append (below i (places c)) (places_from (i + 1) cs) t
    ∙ (λ j.
    found-no_child (places c) t i (slice_get_past (children t) i h) j ++ found-past cs t (i + 1) (omega (arith, h)) j)

mutual
  found_places : (c : Change) (t : Tree) → all_found t (places c) ≡ places (taken c t)
  found_places same t = refl
  found_places (inside cs) t = found_from cs t [] (children t) refl
  found_places (replaced u) t = refl

  found_from : (cs : Changes) (t : Tree) (us vs : List Tree)
      → children t ≡ us ++ vs → all_found t (places_from (length us) cs) ≡ places_from (length us) (taken_all cs vs)
  found_from no_more t us vs e = refl
  found_from (and_then c cs) t us [] e =
      found-past (and_then c cs) t (length us) (omega (arith, ap length e, length-append us []))
  found_from (and_then c cs) t us (v ∷ vs) e =
      let i = length us in
      let index : i + 1 ≡ length (us ++ v ∷ []) = sym (length-append us (v ∷ [])) in
      let split : children t ≡ (us ++ v ∷ []) ++ vs = e ∙ sym (append_assoc us (v ∷ []) vs) in
      found-append (below i (places c)) (places_from (i + 1) cs) t
      ∙ (λ j.
      (found-below (places c) t v i (ap (λ l. slice_get l i) e ∙ get_seam us vs v) ∙ ap (below i) (found_places c v)) j
      ++ (ap (λ k. all_found t (places_from k cs)) index ∙ found_from cs t (us ++ v ∷ []) vs split
      ∙ ap (λ k. places_from k (taken_all cs vs)) (sym index)) j)

pub taken_is_there : TakenIsThere
taken_is_there c t = sym (found_places c t)

-- ---- places apart

pub left_apart : (e : Edits) (q : List ℕ) (t : Tree) → ApartFromAll q e → at (edited t e) q ≡ at t q
left_apart [] q t h = refl
left_apart (x ∷ e) q t h = left_apart e q (set_at t x.path x.new) h.1 ∙ apart_is_left t x.new x.path q (h.0.1, h.0.0)

pub left_apart_back : (e : Edits) (q : List ℕ) (t : Tree) → ApartFromAll q e → at (edited_back t e) q ≡ at t q
left_apart_back [] q t h = refl
left_apart_back (x ∷ e) q t h = apart_is_left (edited_back t e) x.new x.path q (h.0.1, h.0.0)
    ∙ left_apart_back e q t h.1

-- what is set first can be set last
set_last : (e : Edits) (q : List ℕ) (t u : Tree) → ApartFromAll q e → edited (set_at t q u) e ≡ set_at (edited t e) q u
set_last [] q t u h = refl
set_last (x ∷ e) q t u h =
    ap (λ s. edited s e) (apart_commute t u x.new q x.path h.0)
    ∙ set_last e q (set_at t x.path x.new) u h.1

pub either_order_of : (e : Edits) (t : Tree) → AllApart e → edited_back t e ≡ edited t e
either_order_of [] t h = refl
either_order_of (x ∷ e) t h =
    ap (λ s. set_at s x.path x.new) (either_order_of e t h.1)
    ∙ sym (set_last e x.path t x.new h.0)

-- ---- what is found one after the other

abbrev pub found_forward : Tree → Edits → Edits
found_forward t [] = []
found_forward t (x ∷ e) = found_at t x ∷ found_forward (set_at t x.path x.new) e

abbrev pub found_back : Tree → Edits → Edits
found_back t [] = []
found_back t (x ∷ e) = found_at (edited_back t e) x ∷ found_back t e

-- one place set leaves what the others have
found_left : (e : Edits) (q : List ℕ) (t u : Tree) → ApartFromAll q e → all_found (set_at t q u) e ≡ all_found t e
found_left [] q t u h = refl
found_left (x ∷ e) q t u h =
    λ j. record { path = x.path; new = unwrap_or (apart_is_left t u q x.path h.0 j) x.new } ∷ found_left e q t u h.1 j

pub forward_of : (e : Edits) (t : Tree) → AllApart e → found_forward t e ≡ all_found t e
forward_of [] t h = refl
forward_of (x ∷ e) t h =
    ap (λ l. found_at t x ∷ l) (forward_of e (set_at t x.path x.new) h.1 ∙ found_left e x.path t x.new h.0)

pub back_of : (e : Edits) (t : Tree) → AllApart e → found_back t e ≡ all_found t e
back_of [] t h = refl
back_of (x ∷ e) t h =
    λ j. record { path = x.path; new = unwrap_or (left_apart_back e x.path t h.0 j) x.new } ∷ back_of e t h.1 j

prefixed_root : (e : Edits) → prefixed [] e ≡ e
prefixed_root [] = refl
prefixed_root (x ∷ e) = ap (λ l. x ∷ l) (prefixed_root e)

pub apart_root : (c : Change) → AllApart (places c)
apart_root c = subst AllApart (prefixed_root (places c)) (places_lie_apart c [])

pub either_order : EitherOrder
either_order c t = either_order_of (places c) t (apart_root c) ∙ put_places c t
