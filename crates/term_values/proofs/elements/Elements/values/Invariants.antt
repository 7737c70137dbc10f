use Rattle.std.proofs.Common.{◌≡◌, ◌++◌, length}
use Rattle.term_values.specs.inside.Bounded.{AllWithin}
use Rattle.term_values.proofs.elements.Elements.values.Given as goal

abbrev pub invariant-loop-seen : goal.invariant-loop-seen
invariant-loop-seen l = (l.all.items ++ l.left ≡ l.fn.self) × AllWithin l.left l.fn.within

abbrev pub decreases-loop-seen : goal.decreases-loop-seen
decreases-loop-seen l = length l.left
