-- Commands as the splitter gives them.
use Rattle.std.specs.Prelude.{ℕ, List, map, if◌then◌else◌}
use Rattle.script_text.specs.declared.framing.Framing.{Framing}
use Rattle.script_text.specs.Script.{commands, complete, is_long}

-- A command as the splitter gives it: one of over 65,536 bytes without its bytes.
pub data Handed : Type 0 where
  text : List ℕ → Handed
  long : Handed

abbrev pub handed_as : List ℕ → Handed
handed_as command = if is_long command then long else text command

-- all commands of a script, and those that are complete whatever follows it
abbrev pub handed : Framing → List ℕ → List Handed
handed framing x = map handed_as (commands framing x)

abbrev pub completed : Framing → List ℕ → List Handed
completed framing x = map handed_as (complete framing x)
