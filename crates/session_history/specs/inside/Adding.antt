-- Appending steps.
use Rattle.std.specs.Prelude.{◌≡◌, List, [], ◌∷◌, ◌++◌}
use Rattle.term_changes.specs.Slots.{Store}
use Rattle.term_changes.specs.Entries.{Entry, before, Fits}
use Rattle.term_changes.specs.Compact.{IsCompact}

-- A step is appended to these logs: the given log after compacting, which leads back to the same
-- store.
pub record AddsStep (logs : List (List Entry)) (log : List Entry) (new : List (List Entry)) : Type 0 where
  pub left : List Entry
  pub all : new ≡ logs ++ left ∷ []
  pub back : (s : Store) → before left s ≡ before log s
  pub fits : (s : Store) → Fits log s → Fits left s
  pub compact : IsCompact left

-- From one store and log to the other: entries were appended to the log, which lead back and fit.
pub record AddsEntries (s : Store) (log : List Entry) (t : Store) (longer : List Entry) : Type 0 where
  pub added : List Entry
  pub after : longer ≡ log ++ added
  pub back : before added t ≡ s
  pub fits : Fits added t
