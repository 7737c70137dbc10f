-- Entries that lead back to what the last step began with.
use Rattle.std.specs.Prelude.{◌≡◌, List, Ok}
use Rattle.prim_core.specs.Signature.{Signature}
use Rattle.term_changes.specs.Slots.{contents}
use Rattle.term_changes.specs.Entries.{Entry, before, Fits}
use Rattle.session_history.specs.Differences.{base_of}
use Rattle.session_history.specs.Unfolded.{Logged, unfolded}

-- These entries lead back from the store to what the last step began with.
pub record LeadsToBase (log : List Entry) (t : Logged) : Type 0 where
  pub base : (ps : List Signature) → base_of (unfolded ps t) ≡ Ok (contents (before log t.store))
  pub fits : Fits log t.store
