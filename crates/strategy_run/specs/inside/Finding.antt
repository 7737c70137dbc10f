-- The outcome of applying before anything is put in place.
use Rattle.std.specs.Prelude.{◌≡◌, ℕ, List, Some}
use Rattle.term_core.specs.Tree.{Tree}
use Rattle.term_paths.specs.Edits.{Edits}
use Rattle.term_changes.specs.Slots.{Store}
use Rattle.term_changes.specs.Entries.{Entry, slot_tree, put, after, FitsForward}
use Rattle.term_changes.specs.Putting.{entries_at}
use Rattle.strategy_meaning.specs.Answer.{spent, big}
use Rattle.strategy_meaning.specs.Applied.{Outcome, gives, fails, stops}
use Rattle.strategy_run.specs.declared.ended.Ended.{Ended}
use Rattle.strategy_run.specs.declared.ended.Ended.TheVariants.{Done, Failed, Spent, Big}

-- Made one after the other, they make u the slot's tree, and each finds its place.
pub record Makes (slot : ℕ) (ps : Edits) (u : Tree) (s : Store) : Type 0 where
  pub tree : after (entries_at slot ps) s ≡ put (slot_tree slot (Some u)) s
  pub places : FitsForward (entries_at slot ps) s

-- The plan for the slot puts the edits in place.
abbrev pub FindsAll : Store → ℕ → Outcome → List Entry → Type 0
FindsAll s slot whole es = (u : Tree) × (e : Edits) × (whole ≡ gives u e) × (es ≡ entries_at slot e) × Makes slot e u s

-- The outcome before anything is put in place.
abbrev pub Finds : Store → ℕ → Outcome → Ended (List Entry) → Type 0
Finds s slot whole (Done es) = FindsAll s slot whole es
Finds s slot whole Failed = whole ≡ fails
Finds s slot whole Spent = whole ≡ stops spent
Finds s slot whole Big = whole ≡ stops big
