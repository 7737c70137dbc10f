use Rattle.std.proofs.Common.{◌≡◌, map, take}
use Rattle.strategy_machine.proofs.stack.Frames.path.Given as goal

abbrev pub invariant-loop-walk : goal.invariant-loop-walk
invariant-loop-walk l = l.path.items ≡ map (λ w. w.index) (take l.walk-index l.walk-items)
