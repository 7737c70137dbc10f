-- Slots: places with a label each. They are never removed, so their numbers stay valid. A slot has
-- content or is empty.
use Rattle.std.specs.Prelude.{ℕ, List, [], ◌∷◌, ◌++◌, Some, None, map, slice_get, ◌+◌, is_some, option_map, option_and_then, filter_map, if◌then◌else◌, nat_eq}
use Rattle.std.specs.declared.option.Option.{Option}
use Rattle.std.specs.Cmp.Lexicographic.{pointwise}
use Rattle.std.specs.FinMap as finmap
use Rattle.std.specs.List.{IsDistinct}
use Rattle.indexmap.specs.IndexMap.{set_value_at}
use Rattle.term_core.specs.Tree.{Tree}
use Rattle.term_changes.specs.Contents.{Contents, Named}

-- the label of each slot and its content
abbrev pub Slots : Type 0 → Type 0
Slots X = List (List ℕ × Option X)

module _ {X : Type 0} where
  abbrev pub labels : Slots X → List (List ℕ)
  labels slots = map (λ s. s.0) slots

  -- no two slots have the same label
  abbrev pub HaveDistinctLabels : Slots X → Type 0
  HaveDistinctLabels slots = IsDistinct (pointwise nat_eq) (labels slots)

  -- the content of slot i, which may be empty, if there is such a slot
  abbrev pub slot_at : Slots X → ℕ → Option (Option X)
  slot_at slots i = option_map (λ s. s.1) (slice_get slots i)

  -- the content of slot i, if it exists and isn't empty
  abbrev pub content : Slots X → ℕ → Option X
  content slots i = option_and_then (λ s. s.1) (slice_get slots i)

  -- the slots with c in slot i; unchanged if there is no such slot
  abbrev pub with_content : Slots X → ℕ → Option X → Slots X
  with_content slots i c = set_value_at slots i c

  -- the number of the first slot of this label, if there is one
  abbrev pub slot_of : Slots X → List ℕ → Option ℕ
  slot_of [] name = None
  slot_of (s ∷ slots) name =
      if pointwise nat_eq name s.0 then Some 0 else option_map (λ i. i + 1) (slot_of slots name)

  -- the slots, with an empty one for the label if it had none
  abbrev pub with_slot : Slots X → List ℕ → Slots X
  with_slot slots name =
      if is_some (slot_of slots name) then slots else slots ++ (name, None) ∷ []

  -- the slots that have content, each with it
  abbrev pub filled : Slots X → List (List ℕ × X)
  filled slots = filter_map (λ s. option_map (λ x. (s.0, x)) s.1) slots

  -- the finite map of the slots with content
  abbrev pub named : Slots X → Named X
  named slots = finmap.from_entries (filled slots)

-- A store has slots for trees and slots for module texts.
pub record Store : Type 0 where
  pub trees : Slots Tree
  pub modules : Slots (List ℕ)

-- no slots
abbrev pub empty_store : Store
empty_store = record { trees = []; modules = [] }

-- The contents of a store: those of its slots that aren't empty.
abbrev pub contents : Store → Contents
contents s = record { trees = named s.trees; modules = named s.modules }

-- the store with a slot for the tree of this label
abbrev pub with_tree_slot : Store → List ℕ → Store
with_tree_slot s name = record s { trees = with_slot s.trees name }

-- the store with a slot for the module of this label
abbrev pub with_module_slot : Store → List ℕ → Store
with_module_slot s name = record s { modules = with_slot s.modules name }
