-- Laws of exchanging, and what a patch comes to as entries of a log.
use Rattle.std.specs.Prelude.{◌≡◌, ℕ, List, [], ◌∷◌, map, Some, unwrap_or}
use Rattle.std.specs.Option.{option_map_or}
use Rattle.term_core.specs.Tree.{Tree}
use Rattle.term_paths.specs.Paths.{at, set_at}
use Rattle.term_paths.specs.Edits.{Edit, Edits, prefixed}
use Rattle.term_changes.specs.Slots.{Store, content}
use Rattle.term_changes.specs.Entries.{Entry, subterm_in, changed_tree, before, after, flipped_back, flipped_forward, Fits, FitsForward}
use Rattle.term_changes.specs.Compact.{IsCompact}
use Rattle.term_changes.specs.Change.{Change, changed, places}
use Rattle.term_changes.specs.Putting.{entries_at, HasPlaces}
use Rattle.term_changes.specs.Exchange.{taken, changed_in, taken_in}

-- Exchanging a second time gives back the tree and the patch.
abbrev pub TwiceIsNothing : Type 0
TwiceIsNothing = (c : Change) (t : Tree)
    → (changed (taken c t) (changed c t) ≡ t) × (taken (taken c t) (changed c t) ≡ c)

-- ---- as edits

-- the edit of the same place with what the tree has there
abbrev pub found_at : Tree → Edit → Edit
found_at t x = record { path = x.path; new = unwrap_or (at t x.path) x.new }

abbrev pub all_found : Tree → Edits → Edits
all_found t e = map (found_at t) e

-- What is taken is what the places have.
abbrev pub TakenIsThere : Type 0
TakenIsThere = (c : Change) (t : Tree) → places (taken c t) ≡ all_found t (places c)

-- the tree after the edits, the last one first
abbrev pub edited_back : Tree → Edits → Tree
edited_back t [] = t
edited_back t (x ∷ e) = set_at (edited_back t e) x.path x.new

-- It doesn't matter in which order the places are set.
abbrev pub EitherOrder : Type 0
EitherOrder = (c : Change) (t : Tree) → edited_back t (places c) ≡ changed c t

-- ---- as entries of a log

-- the entries of the places of a patch, in the subterm of a slot's tree that the path leads to
abbrev pub patch_entries : ℕ → List ℕ → Change → List Entry
patch_entries slot p c = entries_at slot (prefixed p (places c))

-- the store with the change made in that subterm; it stays where there is none
abbrev pub patched : Change → ℕ → List ℕ → Store → Store
patched c slot p s = record s { trees = changed_tree (λ t. changed_in c t p) s.trees slot }

-- what the change finds there
abbrev pub taken_slot : Change → ℕ → List ℕ → Store → Change
taken_slot c slot p s = option_map_or (λ t. taken_in c t p) (content s.trees slot) c

-- A log of these entries leads forward and back to the same store, and keeps the same then.
abbrev pub LeadsBothWays : Type 0
LeadsBothWays = (c : Change) (slot : ℕ) (p : List ℕ) (s : Store)
    → (after (patch_entries slot p c) s ≡ patched c slot p s)
    × (before (patch_entries slot p c) s ≡ patched c slot p s)

abbrev pub KeepsBothWays : Type 0
KeepsBothWays = (c : Change) (slot : ℕ) (p : List ℕ) (s : Store)
    → (flipped_forward (patch_entries slot p c) s ≡ patch_entries slot p (taken_slot c slot p s))
    × (flipped_back (patch_entries slot p c) s ≡ patch_entries slot p (taken_slot c slot p s))

-- It is compact.
abbrev pub PatchesAreCompact : Type 0
PatchesAreCompact = (slot : ℕ) (p : List ℕ) (c : Change) → IsCompact (patch_entries slot p c)

-- Places that are there are there after the exchange, and a log of them fits either way.
abbrev pub PlacesStay : Type 0
PlacesStay = (c : Change) (t : Tree) → HasPlaces t c → HasPlaces (changed c t) (taken c t)

abbrev pub FitsBothWays : Type 0
FitsBothWays = (c : Change) (u : Tree) (slot : ℕ) (p : List ℕ) (s : Store)
    → subterm_in s.trees slot p ≡ Some u → HasPlaces u c
    → FitsForward (patch_entries slot p c) s × Fits (patch_entries slot p c) s
