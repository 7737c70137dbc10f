-- The slots of a log's entries.
use Rattle.std.proofs.Common.{◌≡◌, ℕ, ◌<◌, List, [], ◌∷◌, length, slice_get, Some, None, IsSome, refl, ◌∙◌, option_map, arith}
use Rattle.std.specs.Prelude.{option_and_then}
use Rattle.std.proofs.lemmas.Option.{slice_get_within}
use Rattle.term_core.specs.Tree.{Tree}
use Rattle.term_paths.specs.Paths.{at, set_at, set_annotations_at}
use Rattle.term_changes.specs.Slots.{Slots, Store, content}
use Rattle.term_changes.specs.Entries.{Entry, slot_tree, subterm, subterm_annotations, slot_text, put, before, HasPlace, Fits}
use Rattle.term_changes.proofs.SlotLemmas.{length-with_content}
use Rattle.session_changes.specs.inside.Told.{HasSlot, HaveSlots}

content_within : (ss : Slots Tree) (i : ℕ) (p : List ℕ) → IsSome (option_and_then (λ t. at t p) (content ss i))
    → i < length ss
content_within ss i p h =
    elim (slice_get ss i) as (λ o.
    slice_get ss i ≡ o → IsSome (option_and_then (λ t. at t p) (option_and_then (λ s. s.1) o)) → i < length ss) [
      | None ↦ λ e h. absurd (cc)
      | Some s ↦ λ e h. slice_get_within ss i s e
    ] refl h

place_slot : (e : Entry) (s : Store) → HasPlace e s → HasSlot s e
place_slot (slot_tree i o) s h = h
place_slot (subterm i p u) s h = content_within s.trees i p h
place_slot (subterm_annotations i p us) s h = content_within s.trees i p h
place_slot (slot_text i x) s h = h

tree_count : (e : Entry) (s : Store) → length (put e s).trees ≡ length s.trees
tree_count (slot_tree i o) s = length-with_content s.trees i o
tree_count (subterm i p u) s = length-with_content s.trees i (option_map (λ t. set_at t p u) (content s.trees i))
tree_count (subterm_annotations i p us) s =
    length-with_content s.trees i (option_map (λ t. set_annotations_at t p us) (content s.trees i))
tree_count (slot_text i x) s = refl

text_count_of : (e : Entry) (s : Store) → length (put e s).modules ≡ length s.modules
text_count_of (slot_tree i o) s = refl
text_count_of (subterm i p u) s = refl
text_count_of (subterm_annotations i p us) s = refl
text_count_of (slot_text i x) s = length-with_content s.modules i x

before_count : (es : List Entry) (s : Store) → length (before es s).trees ≡ length s.trees
before_count [] s = refl
before_count (e ∷ es) s = tree_count e (before es s) ∙ before_count es s

before_texts : (es : List Entry) (s : Store) → length (before es s).modules ≡ length s.modules
before_texts [] s = refl
before_texts (e ∷ es) s = text_count_of e (before es s) ∙ before_texts es s

slot_before : (e : Entry) (es : List Entry) (s : Store) → HasSlot (before es s) e → HasSlot s e
slot_before (slot_tree i o) es s h = omega (arith, h, before_count es s)
slot_before (subterm i p u) es s h = omega (arith, h, before_count es s)
slot_before (subterm_annotations i p us) es s h = omega (arith, h, before_count es s)
slot_before (slot_text i x) es s h = omega (arith, h, before_texts es s)

pub fitting_slots : (es : List Entry) (s : Store) → Fits es s → HaveSlots s es
fitting_slots [] s h = tt
fitting_slots (e ∷ es) s h = (slot_before e es s (place_slot e (before es s) h.0), fitting_slots es s h.1)
