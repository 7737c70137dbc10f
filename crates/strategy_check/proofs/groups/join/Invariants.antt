use Rattle.std.proofs.Common.{◌≡◌, [], ◌∷◌, ◌++◌, length}
use Rattle.strategy_check.specs.Programs.{joined}
use Rattle.strategy_check.proofs.groups.join.Given as goal

abbrev pub invariant-loop-body : goal.invariant-loop-body
invariant-loop-body l = joined (l.bodies.items ++ l.whole ∷ []) ≡ joined l.fn.bodies.items

abbrev pub decreases-loop-body : goal.decreases-loop-body
decreases-loop-body l = length l.bodies.items
