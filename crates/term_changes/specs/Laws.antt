-- Laws of logs. They hold also for places that a store doesn't have: nothing is put there.
use Rattle.std.specs.Prelude.{◌≡◌, ℕ, List, ◌++◌, [], ◌∷◌, Some, None, false, take, drop, option_and_then}
use Rattle.std.specs.FinMap as finmap
use Rattle.term_core.specs.Tree.{Tree}
use Rattle.term_paths.specs.Paths.{set_at, set_annotations_at}
use Rattle.term_changes.specs.Contents.{with_tree, without_tree, with_module, without_module}
use Rattle.term_changes.specs.Slots.{Store, HaveDistinctLabels, content, contents, slot_of, with_tree_slot, with_module_slot}
use Rattle.term_changes.specs.Entries.{Entry, slot_tree, subterm, subterm_annotations, slot_text, HasPlace, put, found, before, after, flipped_back, flipped_forward, Fits, FitsForward, has_text}
use Rattle.term_changes.specs.Compact.{IsCompact}

-- Redoing a log that was flipped back gives the store from before the flip, and the same log.
abbrev pub StoreFromAfter : Type 0
StoreFromAfter = (log : List Entry) (s : Store) → after (flipped_back log s) (before log s) ≡ s

abbrev pub FlipsForward : Type 0
FlipsForward = (log : List Entry) (s : Store)
    → flipped_forward (flipped_back log s) (before log s) ≡ log

-- The same for undoing a log that was flipped forward.
abbrev pub StoreFromBefore : Type 0
StoreFromBefore = (log : List Entry) (s : Store)
    → before (flipped_forward log s) (after log s) ≡ s

abbrev pub FlipsBack : Type 0
FlipsBack = (log : List Entry) (s : Store)
    → flipped_back (flipped_forward log s) (after log s) ≡ log

-- A log that fits still fits forward after it is flipped back, and backward after it is flipped
-- forward.
abbrev pub FlippedBackFits : Type 0
FlippedBackFits = (log : List Entry) (s : Store)
    → Fits log s → FitsForward (flipped_back log s) (before log s)

abbrev pub FlippedForwardFits : Type 0
FlippedForwardFits = (log : List Entry) (s : Store)
    → FitsForward log s → Fits (flipped_forward log s) (after log s)

-- Rolling back finds what was put before a push, and the log still fits.
abbrev pub PushedFits : Type 0
PushedFits = (log : List Entry) (e : Entry) (s : Store)
    → Fits log s → HasPlace e s → Fits (log ++ found e s ∷ []) (put e s)

abbrev pub RolledBackFits : Type 0
RolledBackFits = (mark : ℕ) (log : List Entry) (s : Store)
    → Fits log s → Fits (take mark log) (before (drop mark log) s)

-- Flips keep the places of a log, so a compact log stays compact.
abbrev pub FlippedBackIsCompact : Type 0
FlippedBackIsCompact = (log : List Entry) (s : Store) → IsCompact log → IsCompact (flipped_back log s)

abbrev pub FlippedForwardIsCompact : Type 0
FlippedForwardIsCompact = (log : List Entry) (s : Store) → IsCompact log → IsCompact (flipped_forward log s)

-- A log without module texts leaves those of the store unchanged.
abbrev pub BeforeKeepsTexts : Type 0
BeforeKeepsTexts = (log : List Entry) (s : Store) → has_text log ≡ false → (before log s).modules ≡ s.modules

abbrev pub AfterKeepsTexts : Type 0
AfterKeepsTexts = (log : List Entry) (s : Store) → has_text log ≡ false → (after log s).modules ≡ s.modules

-- Which store a log leads back to: a push keeps it, since it records what the change replaces, and
-- rolling back keeps it too.
abbrev pub PushedLeadsBack : Type 0
PushedLeadsBack = (log : List Entry) (e : Entry) (s : Store)
    → before (log ++ found e s ∷ []) (put e s) ≡ before log s

abbrev pub RolledBackLeadsBack : Type 0
RolledBackLeadsBack = (mark : ℕ) (log : List Entry) (s : Store)
    → before (take mark log) (before (drop mark log) s) ≡ before log s

-- ---- the contents of a store

-- A new slot is empty, so the contents stay the same.
abbrev pub NewSlotsAreEmpty : Type 0
NewSlotsAreEmpty = (s : Store) (name : List ℕ)
    → (contents (with_tree_slot s name) ≡ contents s) × (contents (with_module_slot s name) ≡ contents s)

-- A tree put in the slot of a name is in the contents under that name, and nothing else changes.
abbrev pub TreePut : Type 0
TreePut = (s : Store) (name : List ℕ) (i : ℕ) (t : Tree) → slot_of s.trees name ≡ Some i
    → contents (put (slot_tree i (Some t)) s) ≡ with_tree (contents s) name t

abbrev pub TreeTaken : Type 0
TreeTaken = (s : Store) (name : List ℕ) (i : ℕ) → HaveDistinctLabels s.trees → slot_of s.trees name ≡ Some i
    → contents (put (slot_tree i None) s) ≡ without_tree (contents s) name

abbrev pub ModulePut : Type 0
ModulePut = (s : Store) (name : List ℕ) (i : ℕ) (text : List ℕ) → slot_of s.modules name ≡ Some i
    → contents (put (slot_text i (Some text)) s) ≡ with_module (contents s) name text

abbrev pub ModuleTaken : Type 0
ModuleTaken = (s : Store) (name : List ℕ) (i : ℕ) → HaveDistinctLabels s.modules → slot_of s.modules name ≡ Some i
    → contents (put (slot_text i None) s) ≡ without_module (contents s) name

-- Putting a subterm at a path changes the tree there.
abbrev pub SubtermPut : Type 0
SubtermPut = (s : Store) (i : ℕ) (p : List ℕ) (t u : Tree) → content s.trees i ≡ Some t
    → put (subterm i p u) s ≡ put (slot_tree i (Some (set_at t p u))) s

abbrev pub AnnotationsPut : Type 0
AnnotationsPut = (s : Store) (i : ℕ) (p : List ℕ) (t : Tree) (us : List Tree) → content s.trees i ≡ Some t
    → put (subterm_annotations i p us) s ≡ put (slot_tree i (Some (set_annotations_at t p us))) s

-- The contents have under a name the content of its slot, and nothing if it has no slot.
abbrev pub TreeOfName : Type 0
TreeOfName = (s : Store) (name : List ℕ) → HaveDistinctLabels s.trees
    → finmap.get (contents s).trees name ≡ option_and_then (content s.trees) (slot_of s.trees name)

abbrev pub ModuleOfName : Type 0
ModuleOfName = (s : Store) (name : List ℕ) → HaveDistinctLabels s.modules
    → finmap.get (contents s).modules name ≡ option_and_then (content s.modules) (slot_of s.modules name)

-- ---- stores with more slots

-- A log that fits a store also fits the store with one more slot, and leads to the same store with
-- that slot.
abbrev pub FitsWithMore : Type 0
FitsWithMore = (log : List Entry) (s : Store) (name : List ℕ) → Fits log s
    → Fits log (with_tree_slot s name) × (before log (with_tree_slot s name) ≡ with_tree_slot (before log s) name)

abbrev pub FitsForwardWithMore : Type 0
FitsForwardWithMore = (log : List Entry) (s : Store) (name : List ℕ) → FitsForward log s
    → FitsForward log (with_tree_slot s name) × (after log (with_tree_slot s name) ≡ with_tree_slot (after log s) name)

-- The same for slots of modules.
abbrev pub FitsWithMoreModules : Type 0
FitsWithMoreModules = (log : List Entry) (s : Store) (name : List ℕ) → Fits log s
    → Fits log (with_module_slot s name) × (before log (with_module_slot s name) ≡ with_module_slot (before log s) name)

abbrev pub FitsForwardWithMoreModules : Type 0
FitsForwardWithMoreModules = (log : List Entry) (s : Store) (name : List ℕ) → FitsForward log s
    → FitsForward log (with_module_slot s name)
    × (after log (with_module_slot s name) ≡ with_module_slot (after log s) name)
