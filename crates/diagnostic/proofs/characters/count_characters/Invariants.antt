-- What the loop of `count_characters` keeps.
use Rattle.std.proofs.Common.{◌≤◌}
use Rattle.diagnostic.proofs.characters.count_characters.Given as goal

abbrev pub invariant-loop-byte : goal.invariant-loop-byte
invariant-loop-byte l = l.count ≤ l.byte-index
