-- The numbers that C gets.
use Rattle.std.specs.Prelude.{◌≡◌, ⊤, ℕ, Bool, true, false}
use Rattle.stratbench_c.specs.declared.answers.Unanswered.{Unanswered}
use Rattle.stratbench_c.specs.declared.answers.Unanswered.TheVariants.{Memory, Stopped as WasStopped}
use Rattle.stratbench_c.specs.declared.status.Status.{Status}
use Rattle.stratbench_c.specs.declared.status.Status.TheVariants.{Accepted, Refused, Cut, NoMemory, Stopped}

-- All commands are answered: all are accepted, or some are refused.
abbrev pub status_of : Bool → Status
status_of true = Accepted
status_of false = Refused

abbrev pub code_of : Status → ℕ
code_of Accepted = 0
code_of Refused = 1
code_of Cut = 2
code_of NoMemory = 3
code_of Stopped = 6

-- A command isn't answered: memory couldn't grow, or there was a stop.
abbrev pub ended_by : Unanswered → Status
ended_by Memory = Cut
ended_by WasStopped = Stopped

-- Only where there may be a stop is that why.
abbrev pub HasCause : Unanswered → Bool → Type 0
HasCause Memory stoppable = ⊤
HasCause WasStopped stoppable = stoppable ≡ true
