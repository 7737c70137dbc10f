-- The start and the end of a run.
use Rattle.std.specs.Prelude.{◌≡◌, []}
use Rattle.term_changes.specs.Standing.{Standing}
use Rattle.strategy_meaning.specs.Answer.{Answer}
use Rattle.strategy_machine.specs.Table.{scopes}
use Rattle.strategy_machine.specs.Trails.{Shows}
use Rattle.strategy_machine.specs.Turns.{IsDone, state_of}
use Rattle.strategy_machine.specs.declared.machine.Machine.{Machine}
use Rattle.strategy_run.specs.Ends.{EndsAs}
use Rattle.strategy_run.specs.declared.ended.Ended.{Ended}

-- no frame is left, and nothing was done
pub record IsEmpty (m : Machine) : Type 0 where
  pub frames : m.frames ≡ []
  pub cells : m.cells.bindings ≡ []
  pub scopes : scopes m.scopes ≡ []
  pub trail : Shows m.trail []

-- The end agrees with this answer; after a success, the machine has the result.
abbrev pub Ends : Standing → Machine → Ended (Unit {0}) → Answer → Type 0
Ends sub m ended whole = EndsAs (λ _. IsDone sub whole (state_of m) m.part) whole ended
