use Rattle.std.proofs.Common.{◌≡◌, ◌+◌, length, drop}
use Rattle.std.specs.List.{flat_map}
use Rattle.aterm_text.specs.Printed.{escaped}
use Rattle.aterm_text.proofs.room.room_after_escaped.Given as goal

-- what is left, with all bytes, is the room, with those still to be measured
abbrev pub invariant-loop-byte : goal.invariant-loop-byte
invariant-loop-byte l =
    l.left + length (flat_map escaped l.bytes) ≡ l.room + length (flat_map escaped (drop l.byte-index l.bytes))
