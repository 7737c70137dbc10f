-- What stands at the place of an escape while a string is read.
use Rattle.std.specs.Prelude.{ℕ, List, ⊤}
use Rattle.text_faults.specs.Places.{HasByte}
use Rattle.text_faults.specs.declared.tokens.StringState.{StringState}
use Rattle.text_faults.specs.declared.tokens.StringState.TheVariants.{Before, Items, Escape}

-- an escape began with a backslash
abbrev pub KeepsEscape : StringState → List ℕ → Type 0
KeepsEscape Before token = ⊤
KeepsEscape Items token = ⊤
KeepsEscape (Escape start read) token = HasByte token start 92
