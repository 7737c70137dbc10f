-- The exit status for a fault of a file.
use Rattle.std.specs.Prelude.{ℕ}
use Rattle.stratbench.specs.declared.status.FileFault.{FileFault}
use Rattle.stratbench.specs.declared.status.FileFault.TheVariants.{Read, Write, Memory, Refused}

-- 1 for a refusal, 3 if a file can't be read or written, 4 for want of memory
abbrev pub status_of_file : FileFault → ℕ
status_of_file (Read error) = 3
status_of_file (Write error) = 3
status_of_file Memory = 4
status_of_file (Refused refusal) = 1
