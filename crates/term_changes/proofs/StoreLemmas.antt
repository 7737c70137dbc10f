-- Putting replaced subterms into a store.
use Rattle.std.proofs.Common.{◌≡◌, ℕ, List, [], ◌∷◌, ◌++◌, Some, None, IsSome, refl, sym, ap, subst, ◌∙◌, zero, suc}
use Rattle.std.specs.Prelude.{option_and_then}
use Rattle.std.specs.declared.option.Option.{Option}
use Rattle.term_core.specs.Tree.{Tree}
use Rattle.term_paths.specs.Paths.{at, set_at}
use Rattle.term_paths.proofs.PathLemmas.{set_at-changed, changed_at-same, at-append}
use Rattle.term_paths.proofs.LawLemmas.{set_is_there, last_set_stays, set_after}
use Rattle.term_changes.specs.Slots.{Slots, Store, content, with_content}
use Rattle.term_changes.specs.Entries.{slot_tree, subterm, subterm_in, put, after, FitsForward}
use Rattle.term_changes.proofs.ContentsLemmas.{subterm_put}
use Rattle.term_paths.specs.Edits.{Edits, prefixed}
use Rattle.term_changes.specs.Change.{changed, places}
use Rattle.term_changes.specs.Putting.{entries_at, PlacesPutTheChange, PlacesAreThere}
use Rattle.term_changes.proofs.PlacesMade.{put_all, places_make_the_change}
use Rattle.term_changes.proofs.PlacesThere.{AllThere, all_there}

-- ---- one slot

pub content_same : (ss : Slots Tree) (i : ℕ) (t : Tree) → content ss i ≡ Some t → with_content ss i (Some t) ≡ ss
content_same [] i t h = refl
content_same (x ∷ ss) zero t h = ap (λ c. (x.0, c) ∷ ss) (sym h)
content_same (x ∷ ss) (suc i) t h = ap (λ l. x ∷ l) (content_same ss i t h)

pub content_put : (ss : Slots Tree) (i : ℕ) (t u : Tree) → content ss i ≡ Some t
    → content (with_content ss i (Some u)) i ≡ Some u
content_put [] i t u h = absurd (cc)
content_put (x ∷ ss) zero t u h = refl
content_put (x ∷ ss) (suc i) t u h = content_put ss i t u h

pub content_twice : (ss : Slots Tree) (i : ℕ) (c d : Option Tree)
    → with_content (with_content ss i c) i d ≡ with_content ss i d
content_twice [] i c d = refl
content_twice (x ∷ ss) zero c d = refl
content_twice (x ∷ ss) (suc i) c d = ap (λ l. x ∷ l) (content_twice ss i c d)

-- ---- places

put_places_at : (ps : Edits) (t u : Tree) (slot : ℕ) (p : List ℕ) (s : Store) → content s.trees slot ≡ Some t
    → at t p ≡ Some u
    → after (entries_at slot (prefixed p ps)) s ≡ put (slot_tree slot (Some (set_at t p (put_all ps u)))) s
put_places_at [] t u slot p s h k =
    let there : set_at t p u ≡ t = set_at-changed t u p ∙ changed_at-same (λ _. u) t u p k refl in
    sym ((λ i. record s { trees = with_content s.trees slot (Some (there i)) })
    ∙ (λ i. record s { trees = content_same s.trees slot t h i }))
put_places_at (q ∷ ps) t u slot p s h k =
    let v = set_at u q.path q.new in
    let next = set_at t p v in
    let s1 = put (slot_tree slot (Some next)) s in
    let once : put (subterm slot (p ++ q.path) q.new) s ≡ s1 = subterm_put s slot (p ++ q.path) t q.new h
    ∙ ap (λ x. put (slot_tree slot (Some x)) s) (set_after t u q.new p q.path k) in
    ap (after (entries_at slot (prefixed p ps))) once
    ∙ put_places_at ps next v slot p s1 (content_put s.trees slot t next h) (set_is_there t v u p k)
    ∙ ap (λ x. put (slot_tree slot (Some x)) s1) (last_set_stays t v (put_all ps v) p)
    ∙ (λ i. record s { trees = content_twice s.trees slot (Some next) (Some (set_at t p (put_all ps v))) i })

-- the slot's tree, given that it has that subterm
whole : (o : Option Tree) (p : List ℕ) (u : Tree) → option_and_then (λ t. at t p) o ≡ Some u
    → (t : Tree) × (o ≡ Some t) × (at t p ≡ Some u)
whole None p u h = absurd (cc)
whole (Some t) p u h = (t, refl, h)

pub places_put_the_change : PlacesPutTheChange
places_put_the_change c u slot p s h =
    let w = whole (content s.trees slot) p u h in
    put_places_at (places c) w.0 u slot p s w.1 w.2
    ∙ ap (λ x. put (slot_tree slot (Some (set_at w.0 p x))) s) (places_make_the_change c u)
    ∙ sym (subterm_put s slot p w.0 (changed c u) w.1)

-- ---- the places exist

fit_places_at : (ps : Edits) (t u : Tree) (slot : ℕ) (p : List ℕ) (s : Store) → content s.trees slot ≡ Some t
    → at t p ≡ Some u
    → AllThere ps u → FitsForward (entries_at slot (prefixed p ps)) s
fit_places_at [] t u slot p s h k g = tt
fit_places_at (q ∷ ps) t u slot p s h k g =
    let v = set_at u q.path q.new in
    let next = set_at t p v in
    let s1 = put (slot_tree slot (Some next)) s in
    let once : put (subterm slot (p ++ q.path) q.new) s ≡ s1 = subterm_put s slot (p ++ q.path) t q.new h
    ∙ ap (λ x. put (slot_tree slot (Some x)) s) (set_after t u q.new p q.path k) in
    let here : subterm_in s.trees slot (p ++ q.path) ≡ at u q.path =
    ap (option_and_then (λ x. at x (p ++ q.path))) h ∙ at-append t p q.path
    ∙ ap (option_and_then (λ x. at x q.path)) k in (
      subst (λ o. IsSome o) (sym here) g.0,
      subst (λ x. FitsForward (entries_at slot (prefixed p ps)) x) (sym once)
          (fit_places_at ps next v slot p s1 (content_put s.trees slot t next h) (set_is_there t v u p k) g.1),
    )

pub places_are_there : PlacesAreThere
places_are_there c u slot p s h g =
    let w = whole (content s.trees slot) p u h in
    fit_places_at (places c) w.0 u slot p s w.1 w.2 (all_there c u g)
