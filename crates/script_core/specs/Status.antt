-- The exit status for the outcome of a run.
use Rattle.std.specs.Prelude.{ℕ, ◌==◌, Ok, Err, if◌then◌else◌}
use Rattle.std.specs.declared.result.Result.{Result}
use Rattle.script_core.specs.declared.running.Summary.{Summary}
use Rattle.script_core.specs.declared.running.RunFault.{RunFault}
use Rattle.script_core.specs.declared.running.RunFault.TheVariants.{Read, Write, Turns, Memory}

-- 0 if all commands were accepted, 1 if some were refused, 3 if reading or writing failed, 4 if
-- there was no memory
abbrev pub status_of : Result Summary RunFault → ℕ
status_of (Ok summary) = if (summary.refused == 0) then 0 else 1
status_of (Err Read) = 3
status_of (Err Write) = 3
status_of (Err Turns) = 3
status_of (Err Memory) = 4
