use Rattle.std.proofs.Common.{◌≡◌, length, slice_get}
use Rattle.term_values.proofs.elements.Elements.nth.Given as goal

abbrev pub invariant-loop-at : goal.invariant-loop-at
invariant-loop-at l = slice_get l.left l.at ≡ slice_get l.fn.self l.fn.i

abbrev pub decreases-loop-at : goal.decreases-loop-at
decreases-loop-at l = length l.left
