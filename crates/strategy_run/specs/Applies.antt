-- Applying strategies in the tree of a slot, through a log.
use Rattle.std.specs.Prelude.{◌≡◌, ℕ, List, ◌++◌, Some}
use Rattle.std.specs.Option.{option_map_or}
use Rattle.term_core.specs.Tree.{Tree}
use Rattle.term_paths.specs.Edits.{Edits}
use Rattle.term_changes.specs.Slots.{Slots, Store, content}
use Rattle.term_changes.specs.Entries.{Entry, slot_tree, put, before, flipped_forward, Fits}
use Rattle.term_changes.specs.Putting.{entries_at}
use Rattle.strategy_syntax.specs.declared.resolved.Resolved.{Resolved}
use Rattle.strategy_meaning.specs.Answer.{spent, big}
use Rattle.strategy_meaning.specs.Meaning.{World}
use Rattle.strategy_meaning.specs.Applied.{Outcome, gives, fails, stops, applied}
use Rattle.strategy_run.specs.declared.ended.Ended.{Ended}
use Rattle.strategy_run.specs.declared.ended.Ended.TheVariants.{Done, Failed, Spent, Big}

-- the outcome of applying in a slot's tree; it fails if the slot has none
abbrev pub applied_in : World → Slots Tree → ℕ → List ℕ → Resolved → ℕ → Outcome
applied_in W slots i p r b = option_map_or (applied W p r b) (content slots i) fails

-- From a store and a log to these: the slot's tree is u, and the log has a new entry for each of
-- the edits, in order. The new entries lead back, and fit; so the whole log still leads back to the
-- same store, and fits if it did.
pub record PutsAll (slot : ℕ) (e : Edits) (u : Tree) (s : Store) (log : List Entry) (t : Store)
    (longer : List Entry) : Type 0 where
  pub tree : t ≡ put (slot_tree slot (Some u)) s
  pub after : longer ≡ log ++ flipped_forward (entries_at slot e) s
  pub back : before (flipped_forward (entries_at slot e) s) t ≡ s
  pub fits : Fits (flipped_forward (entries_at slot e) s) t
  pub log_back : before longer t ≡ before log s
  pub log_fits : Fits log s → Fits longer t

-- How applying ends, by its outcome. If that is a tree, it is put in place; else nothing changes.
abbrev pub Applies : (Edits → Tree → Type 0) → Type 0 → Outcome → Ended (Unit {0}) → Type 0
Applies Puts Stays whole (Done _) = (u : Tree) × (e : Edits) × (whole ≡ gives u e) × Puts e u
Applies Puts Stays whole Failed = (whole ≡ fails) × Stays
Applies Puts Stays whole Spent = (whole ≡ stops spent) × Stays
Applies Puts Stays whole Big = (whole ≡ stops big) × Stays

-- store and log are unchanged
pub record Stay (s : Store) (entries : List Entry) (t : Store) (longer : List Entry) : Type 0 where
  pub store : t ≡ s
  pub log : longer ≡ entries
