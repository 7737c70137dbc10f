-- What the buffer of a command represents.
use Rattle.std.specs.Prelude.{◌≤◌, length, Some, None, vec_capacity, if◌then◌else◌}
use Rattle.std.specs.declared.option.Option.{Option}
use Rattle.script_text.specs.declared.TheConstants.{MAX_COMMAND}
use Rattle.script_text.specs.declared.pending.Pending.TheInside.{Inside}
use Rattle.script_text.specs.Handed.{Handed, text, long}

-- the command in the buffer, if there is one
abbrev pub pending_of : Inside → Option Handed
pending_of p = if p.is_there then Some (if p.is_long then long else text p.bytes.items) else None

-- There is room for the longest command, and no more is stored.
pub record HasRoom (p : Inside) : Type 0 where
  pub room : MAX_COMMAND ≤ vec_capacity p.bytes
  pub within : length p.bytes.items ≤ MAX_COMMAND
