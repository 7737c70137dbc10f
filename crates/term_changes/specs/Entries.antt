-- Logs of changes. An entry is a place in a store with a value: what was there before a change or,
-- after the change was undone, what the change put there.
use Rattle.std.specs.Prelude.{ℕ, ◌+◌, ◌<◌, Bool, nat_lt, List, [], ◌∷◌, length, option_map, option_and_then, unwrap_or, IsSome}
use Rattle.std.specs.declared.option.Option.{Option}
use Rattle.term_core.specs.Tree.{Tree}
use Rattle.term_paths.specs.Paths.{at, annotations_at, set_at, set_annotations_at}
use Rattle.term_changes.specs.Slots.{Slots, Store, slot_at, content, with_content}

pub data Entry : Type 0 where
  slot_tree : ℕ → Option Tree → Entry  -- a slot's tree, or none
  subterm : ℕ → List ℕ → Tree → Entry  -- the subterm at the path in a slot's tree
  subterm_annotations : ℕ → List ℕ → List Tree → Entry  -- the annotations of that subterm
  slot_text : ℕ → Option (List ℕ) → Entry  -- a slot's module text, or none

-- the subterm at the path in the tree of slot i, if there is one
abbrev pub subterm_in : Slots Tree → ℕ → List ℕ → Option Tree
subterm_in slots i p = option_and_then (λ t. at t p) (content slots i)

-- the annotations of that subterm
abbrev pub annotations_in : Slots Tree → ℕ → List ℕ → Option (List Tree)
annotations_in slots i p = option_and_then (λ t. annotations_at t p) (content slots i)

-- Whether the store has the entry's place: the slot exists, and for a path its tree has a subterm
-- there.
abbrev pub HasPlace : Entry → Store → Type 0
HasPlace (slot_tree i kept) s = i < length s.trees
HasPlace (subterm i p kept) s = IsSome (subterm_in s.trees i p)
HasPlace (subterm_annotations i p kept) s = IsSome (subterm_in s.trees i p)
HasPlace (slot_text i kept) s = i < length s.modules

-- the slots with f applied to the tree of slot i, if it has one
abbrev pub changed_tree : (Tree → Tree) → Slots Tree → ℕ → Slots Tree
changed_tree f slots i = with_content slots i (option_map f (content slots i))

-- The store with the entry's value at its place; unchanged if it doesn't have that place.
abbrev pub put : Entry → Store → Store
put (slot_tree i kept) s = record s { trees = with_content s.trees i kept }
put (subterm i p kept) s = record s { trees = changed_tree (λ t. set_at t p kept) s.trees i }
put (subterm_annotations i p kept) s =
    record s { trees = changed_tree (λ t. set_annotations_at t p kept) s.trees i }
put (slot_text i kept) s = record s { modules = with_content s.modules i kept }

-- The entry of the same place with the value that the store has there.
abbrev pub found : Entry → Store → Entry
found (slot_tree i kept) s = slot_tree i (unwrap_or (slot_at s.trees i) kept)
found (subterm i p kept) s = subterm i p (unwrap_or (subterm_in s.trees i p) kept)
found (subterm_annotations i p kept) s =
    subterm_annotations i p (unwrap_or (annotations_in s.trees i p) kept)
found (slot_text i kept) s = slot_text i (unwrap_or (slot_at s.modules i) kept)

-- 1 for the entry of a module text
abbrev pub text_count : Entry → ℕ
text_count (slot_tree i kept) = 0
text_count (subterm i p kept) = 0
text_count (subterm_annotations i p kept) = 0
text_count (slot_text i kept) = 1

-- how many entries hold module texts
abbrev pub texts : List Entry → ℕ
texts [] = 0
texts (e ∷ es) = text_count e + texts es

-- whether any does
abbrev pub has_text : List Entry → Bool
has_text log = nat_lt 0 (texts log)

-- The store before a log: the values of its entries are put at their places, the newest entry
-- first. A log is the list of its entries, the oldest first.
abbrev pub before : List Entry → Store → Store
before [] s = s
before (e ∷ es) s = put e (before es s)

-- The store after a log: the values of its entries are put at their places, the oldest entry first.
abbrev pub after : List Entry → Store → Store
after [] s = s
after (e ∷ es) s = after es (put e s)

-- The log that redoes the changes once they are undone: each entry holds the value that was found
-- when it was put, the newest entry first.
abbrev pub flipped_back : List Entry → Store → List Entry
flipped_back [] s = []
flipped_back (e ∷ es) s = found e (before es s) ∷ flipped_back es s

-- The log that undoes the changes once they are redone.
abbrev pub flipped_forward : List Entry → Store → List Entry
flipped_forward [] s = []
flipped_forward (e ∷ es) s = found e s ∷ flipped_forward es (put e s)

-- A log fits a store if each put of `before` finds its place.
abbrev pub Fits : List Entry → Store → Type 0
Fits [] s = Unit {0}
Fits (e ∷ es) s = HasPlace e (before es s) × Fits es s

-- It fits the store forward if each put of `after` does.
abbrev pub FitsForward : List Entry → Store → Type 0
FitsForward [] s = Unit {0}
FitsForward (e ∷ es) s = HasPlace e s × FitsForward es (put e s)
