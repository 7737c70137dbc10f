-- Why the value of an option isn't taken.
use Rattle.std.specs.Prelude.{⊤}
use Rattle.command_line.specs.declared.named.Untaken.{Untaken}
use Rattle.command_line.specs.declared.named.Untaken.TheVariants.{Malformed, Memory}

-- what holds if a value is malformed
abbrev pub IfMalformed : Untaken → Type 0 → Type 0
IfMalformed (Malformed option value) It = It
IfMalformed Memory It = ⊤
