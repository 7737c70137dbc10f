-- A patch in a slot's tree, as entries of a log.
use Rattle.std.proofs.Common.{◌≡◌, ℕ, zero, suc, List, [], ◌∷◌, ◌++◌, Some, None, IsSome, refl, sym, ap, subst, ◌∙◌, arith, option_map}
use Rattle.std.specs.Prelude.{unwrap_or, option_and_then}
use Rattle.std.specs.Option.{option_map_or}
use Rattle.std.specs.Prelude.{All}
use Rattle.std.proofs.lemmas.List.Kept.{AllPairs-cons}
use Rattle.term_paths.specs.Laws.{AreApart}
use Rattle.term_changes.specs.Compact.{IsCompact}
use Rattle.term_changes.specs.Compact as entry
use Rattle.std.specs.declared.option.Option.{Option}
use Rattle.term_core.specs.Tree.{Tree}
use Rattle.term_paths.specs.Paths.{at, set_at}
use Rattle.term_paths.proofs.PathLemmas.{set_at-changed, changed_at-same, at-append}
use Rattle.term_paths.proofs.LawLemmas.{set_is_there, set_nowhere, last_set_stays, set_after}
use Rattle.term_paths.proofs.ApartLemmas.{apart_is_left}
use Rattle.term_paths.specs.Edits.{Edit, Edits, edited, prefixed}
use Rattle.term_changes.specs.Slots.{Slots, Store, content, with_content}
use Rattle.term_changes.specs.Entries.{slot_tree, subterm, subterm_in, put, before, after, flipped_back, flipped_forward, Fits}
use Rattle.term_changes.proofs.ContentsLemmas.{subterm_put}
use Rattle.term_changes.specs.Change.{Change, changed, places}
use Rattle.term_changes.specs.Putting.{entry_at, entries_at, ApartFromAll, AllApart}
use Rattle.term_changes.proofs.ApartLemmas.{places_lie_apart}
use Rattle.term_changes.proofs.PlacesMade.{put_places}
use Rattle.term_changes.proofs.PlacesThere.{AllThere, all_there}
use Rattle.term_changes.proofs.StoreLemmas.{content_same, content_put, content_twice, places_are_there}
use Rattle.term_changes.specs.Exchange.{taken, changed_in, taken_in}
use Rattle.term_changes.specs.PatchLaws.{all_found, edited_back, patch_entries, patched, LeadsBothWays, KeepsBothWays, FitsBothWays, PatchesAreCompact}
use Rattle.term_changes.proofs.OrderLemmas.{found_forward, found_back, forward_of, back_of, either_order_of, left_apart_back, apart_root, taken_is_there}

-- ---- edits prefixed by a path

edited-after : (e : Edits) (t u : Tree) (p : List ℕ) → at t p ≡ Some u
    → edited t (prefixed p e) ≡ set_at t p (edited u e)
edited-after [] t u p k = sym (set_at-changed t u p ∙ changed_at-same (λ _. u) t u p k refl)
edited-after (x ∷ e) t u p k =
    let v = set_at u x.path x.new in
    ap (λ s. edited s (prefixed p e)) (set_after t u x.new p x.path k)
    ∙ edited-after e (set_at t p v) v p (set_is_there t v u p k)
    ∙ last_set_stays t v (edited v e) p

at-nowhere : (t : Tree) (p q : List ℕ) → at t p ≡ None → at t (p ++ q) ≡ None
at-nowhere t p q k = at-append t p q ∙ ap (option_and_then (λ u. at u q)) k

edited-nowhere : (e : Edits) (t : Tree) (p : List ℕ) → at t p ≡ None → edited t (prefixed p e) ≡ t
edited-nowhere [] t p k = refl
edited-nowhere (x ∷ e) t p k =
    ap (λ s. edited s (prefixed p e)) (set_nowhere t x.new (p ++ x.path) (at-nowhere t p x.path k))
    ∙ edited-nowhere e t p k

found-after : (e : Edits) (t u : Tree) (p : List ℕ) → at t p ≡ Some u
    → all_found t (prefixed p e) ≡ prefixed p (all_found u e)
found-after [] t u p k = refl
found-after (x ∷ e) t u p k =
    λ j. record {
      path = p ++ x.path;
      new = unwrap_or ((at-append t p x.path ∙ ap (option_and_then (λ w. at w x.path)) k) j) x.new;
    } ∷ found-after e t u p k j

found-nowhere : (e : Edits) (t : Tree) (p : List ℕ) → at t p ≡ None → all_found t (prefixed p e) ≡ prefixed p e
found-nowhere [] t p k = refl
found-nowhere (x ∷ e) t p k =
    λ j. record { path = p ++ x.path; new = unwrap_or (at-nowhere t p x.path k j) x.new } ∷ found-nowhere e t p k j

-- ---- that the places are there

-- each place is there
abbrev AllIn : Edits → Tree → Type 0
AllIn [] t = Unit {0}
AllIn (x ∷ e) t = IsSome (at t x.path) × AllIn e t

in_before : (e : Edits) (q : List ℕ) (t u : Tree) → ApartFromAll q e → AllIn e (set_at t q u) → AllIn e t
in_before [] q t u a h = tt
in_before (x ∷ e) q t u a h = (subst (λ o. IsSome o) (apart_is_left t u q x.path a.0) h.0, in_before e q t u a.1 h.1)

all_in : (e : Edits) (t : Tree) → AllApart e → AllThere e t → AllIn e t
all_in [] t a h = tt
all_in (x ∷ e) t a h = (h.0, in_before e x.path t x.new a.0 (all_in e (set_at t x.path x.new) a.1 h.1))

in_prefixed : (e : Edits) (t u : Tree) (p : List ℕ) → at t p ≡ Some u → AllIn e u → AllIn (prefixed p e) t
in_prefixed [] t u p k h = tt
in_prefixed (x ∷ e) t u p k h = (
  subst (λ o. IsSome o) (sym (at-append t p x.path ∙ ap (option_and_then (λ w. at w x.path)) k)) h.0,
  in_prefixed e t u p k h.1,
)

-- ---- the places of a change

made_in : (c : Change) (t : Tree) (p : List ℕ) → edited t (prefixed p (places c)) ≡ changed_in c t p
made_in c t p =
    elim (at t p) as (λ o.
    at t p ≡ o → edited t (prefixed p (places c)) ≡ option_map_or (λ u. set_at t p (changed c u)) o t) [
      | None ↦ λ k. edited-nowhere (places c) t p k
      | Some u ↦ λ k. edited-after (places c) t u p k ∙ ap (set_at t p) (put_places c u)
    ] refl

found_in : (c : Change) (t : Tree) (p : List ℕ)
    → all_found t (prefixed p (places c)) ≡ prefixed p (places (taken_in c t p))
found_in c t p =
    elim (at t p) as (λ o.
    at t p ≡ o → all_found t (prefixed p (places c)) ≡ prefixed p (places (option_map_or (taken c) o c))) [
      | None ↦ λ k. found-nowhere (places c) t p k
      | Some u ↦ λ k. found-after (places c) t u p k ∙ ap (prefixed p) (sym (taken_is_there c u))
    ] refl

-- ---- in a store

content_none : (ss : Slots Tree) (i : ℕ) → content ss i ≡ None → with_content ss i None ≡ ss
content_none [] i h = refl
content_none (x ∷ ss) zero h = ap (λ c. (x.0, c) ∷ ss) (sym h)
content_none (x ∷ ss) (suc i) h = ap (λ l. x ∷ l) (content_none ss i h)

put_none : (s : Store) (slot : ℕ) (x : Edit) → content s.trees slot ≡ None → put (entry_at slot x) s ≡ s
put_none s slot x h = λ i. record s {
  trees =
      (ap (λ o. with_content s.trees slot (option_map (λ t. set_at t x.path x.new) o)) h
      ∙ content_none s.trees slot h) i;
}

-- where the slot has a tree
module _ (slot : ℕ) where
  after_tree : (e : Edits) (t : Tree) (s : Store) → content s.trees slot ≡ Some t
      → after (entries_at slot e) s ≡ put (slot_tree slot (Some (edited t e))) s
  after_tree [] t s h = sym (λ i. record s { trees = content_same s.trees slot t h i })
  after_tree (x ∷ e) t s h =
      let next = set_at t x.path x.new in
      let s1 = put (slot_tree slot (Some next)) s in
      ap (after (entries_at slot e)) (subterm_put s slot x.path t x.new h)
      ∙ after_tree e next s1 (content_put s.trees slot t next h)
      ∙ (λ i. record s { trees = content_twice s.trees slot (Some next) (Some (edited next e)) i })

  before_tree : (e : Edits) (t : Tree) (s : Store) → content s.trees slot ≡ Some t
      → before (entries_at slot e) s ≡ put (slot_tree slot (Some (edited_back t e))) s
  before_tree [] t s h = sym (λ i. record s { trees = content_same s.trees slot t h i })
  before_tree (x ∷ e) t s h =
      let next = edited_back t e in
      let s1 = put (slot_tree slot (Some next)) s in
      ap (put (entry_at slot x)) (before_tree e t s h)
      ∙ subterm_put s1 slot x.path next x.new (content_put s.trees slot t next h)
      ∙ (λ i. record s { trees = content_twice s.trees slot (Some next) (Some (set_at next x.path x.new)) i })

  -- what is at a path before the entries
  before_at : (e : Edits) (t : Tree) (s : Store) (q : List ℕ) → content s.trees slot ≡ Some t
      → subterm_in (before (entries_at slot e) s).trees slot q ≡ at (edited_back t e) q
  before_at e t s q h =
      ap (λ w. subterm_in w.trees slot q) (before_tree e t s h)
      ∙ ap (option_and_then (λ w. at w q)) (content_put s.trees slot t (edited_back t e) h)

  forward_tree : (e : Edits) (t : Tree) (s : Store) → content s.trees slot ≡ Some t
      → flipped_forward (entries_at slot e) s ≡ entries_at slot (found_forward t e)
  forward_tree [] t s h = refl
  forward_tree (x ∷ e) t s h =
      let next = set_at t x.path x.new in
      let s1 = put (slot_tree slot (Some next)) s in
      λ i. subterm slot x.path (unwrap_or (option_and_then (λ w. at w x.path) (h i)) x.new)
      ∷ (ap (flipped_forward (entries_at slot e)) (subterm_put s slot x.path t x.new h)
      ∙ forward_tree e next s1 (content_put s.trees slot t next h)) i

  back_tree : (e : Edits) (t : Tree) (s : Store) → content s.trees slot ≡ Some t
      → flipped_back (entries_at slot e) s ≡ entries_at slot (found_back t e)
  back_tree [] t s h = refl
  back_tree (x ∷ e) t s h =
      λ i. subterm slot x.path (unwrap_or (before_at e t s x.path h i) x.new) ∷ back_tree e t s h i

  fits_tree : (e : Edits) (t : Tree) (s : Store) → content s.trees slot ≡ Some t → AllApart e → AllIn e t
      → Fits (entries_at slot e) s
  fits_tree [] t s h a g = tt
  fits_tree (x ∷ e) t s h a g = (
    subst (λ o. IsSome o) (sym (before_at e t s x.path h ∙ left_apart_back e x.path t a.0)) g.0,
    fits_tree e t s h a.1 g.1,
  )

  -- where it has none
  after_none : (e : Edits) (s : Store) → content s.trees slot ≡ None → after (entries_at slot e) s ≡ s
  after_none [] s h = refl
  after_none (x ∷ e) s h = ap (after (entries_at slot e)) (put_none s slot x h) ∙ after_none e s h

  before_none : (e : Edits) (s : Store) → content s.trees slot ≡ None → before (entries_at slot e) s ≡ s
  before_none [] s h = refl
  before_none (x ∷ e) s h = ap (put (entry_at slot x)) (before_none e s h) ∙ put_none s slot x h

  forward_none : (e : Edits) (s : Store)
      → content s.trees slot ≡ None → flipped_forward (entries_at slot e) s ≡ entries_at slot e
  forward_none [] s h = refl
  forward_none (x ∷ e) s h =
      λ i. subterm slot x.path (unwrap_or (option_and_then (λ w. at w x.path) (h i)) x.new)
      ∷ (ap (flipped_forward (entries_at slot e)) (put_none s slot x h) ∙ forward_none e s h) i

  back_none : (e : Edits) (s : Store)
      → content s.trees slot ≡ None → flipped_back (entries_at slot e) s ≡ entries_at slot e
  back_none [] s h = refl
  back_none (x ∷ e) s h =
      λ i. subterm slot x.path
      (unwrap_or (option_and_then (λ w. at w x.path) ((ap (λ w. content w.trees slot) (before_none e s h) ∙ h) i))
      x.new) ∷ back_none e s h i

-- ---- the laws

pub leads_both_ways : LeadsBothWays
leads_both_ways c slot p s =
    let e = prefixed p (places c) in
    elim (content s.trees slot) as (λ o. content s.trees slot ≡ o → (after (entries_at slot e) s ≡ patched c slot p s)
    × (before (entries_at slot e) s ≡ patched c slot p s)) [
      | None ↦ λ h.
          let there = sym (λ i. record s {
            trees =
                (ap (λ o. with_content s.trees slot (option_map (λ t. changed_in c t p) o)) h
                ∙ content_none s.trees slot h) i;
          }) in
          (after_none slot e s h ∙ there, before_none slot e s h ∙ there)
      | Some t ↦ λ h.
          let there =
          sym (λ i. record s { trees = with_content s.trees slot (option_map (λ w. changed_in c w p) (h i)) }) in
          let made = λ (w : Tree) (k : w ≡ changed_in c t p). ap (λ x. put (slot_tree slot (Some x)) s) k in
          let back = either_order_of e t (places_lie_apart c p) ∙ made_in c t p in (
            after_tree slot e t s h ∙ made (edited t e) (made_in c t p) ∙ there,
            before_tree slot e t s h ∙ made (edited_back t e) back ∙ there,
          )
    ] refl

pub keeps_both_ways : KeepsBothWays
keeps_both_ways c slot p s =
    let e = prefixed p (places c) in
    elim (content s.trees slot) as (λ o. content s.trees slot ≡ o
    → (flipped_forward (entries_at slot e) s ≡ patch_entries slot p (option_map_or (λ t. taken_in c t p) o c))
    × (flipped_back (entries_at slot e) s ≡ patch_entries slot p (option_map_or (λ t. taken_in c t p) o c))) [
      | None ↦ λ h. (forward_none slot e s h, back_none slot e s h)
      | Some t ↦ λ h.
          let a = places_lie_apart c p in (
            forward_tree slot e t s h ∙ ap (entries_at slot) (forward_of e t a ∙ found_in c t p),
            back_tree slot e t s h ∙ ap (entries_at slot) (back_of e t a ∙ found_in c t p),
          )
    ] refl

whole : (o : Option Tree) (p : List ℕ) (u : Tree) → option_and_then (λ t. at t p) o ≡ Some u
    → (t : Tree) × (o ≡ Some t) × (at t p ≡ Some u)
whole None p u h = absurd (cc)
whole (Some t) p u h = (t, refl, h)

pub fits_both_ways : FitsBothWays
fits_both_ways c u slot p s h g =
    let w = whole (content s.trees slot) p u h in (
      places_are_there c u slot p s h g,
      fits_tree slot (prefixed p (places c)) w.0 s w.1 (places_lie_apart c p)
          (in_prefixed (places c) w.0 u p w.2 (all_in (places c) u (apart_root c) (all_there c u g))),
    )

-- ---- compact

entries_apart : (slot : ℕ) (x y : Edit) → AreApart x.path y.path
    → entry.EntriesAreApart (entry_at slot x) (entry_at slot y)
entries_apart slot x y h = (λ w. h.0 w.1, λ w. h.1 w.1)

all_entries_apart : (slot : ℕ) (x : Edit) (e : Edits) → ApartFromAll x.path e
    → All (entry.EntriesAreApart (entry_at slot x)) (entries_at slot e)
all_entries_apart slot x [] h k d l = absurd (omega (arith, l))
all_entries_apart slot x (y ∷ e) h zero d l = entries_apart slot x y h.0
all_entries_apart slot x (y ∷ e) h (suc k) d l = all_entries_apart slot x e h.1 k d (omega (arith, l))

compact : (slot : ℕ) (e : Edits) → AllApart e → IsCompact (entries_at slot e)
compact slot [] h = λ i j d l k. absurd (omega (arith, k))
compact slot (x ∷ e) h = AllPairs-cons entry.EntriesAreApart (entry_at slot x) (entries_at slot e)
    (all_entries_apart slot x e h.0) (compact slot e h.1)

pub patches_are_compact : PatchesAreCompact
patches_are_compact slot p c = compact slot (prefixed p (places c)) (places_lie_apart c p)
