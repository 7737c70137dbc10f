-- What the loop of `place_of` keeps.
use Rattle.std.proofs.Common.{◌≤◌}
use Rattle.diagnostic.proofs.characters.place_of.Given as goal

abbrev pub invariant-loop-byte : goal.invariant-loop-byte
invariant-loop-byte l = l.first ≤ l.line
