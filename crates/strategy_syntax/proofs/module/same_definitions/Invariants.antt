use Rattle.std.proofs.Common.{◌≡◌, take, length}
use Rattle.strategy_syntax.proofs.module.same_definitions.Given as goal

abbrev pub invariant-loop-definition : goal.invariant-loop-definition
invariant-loop-definition l = take (length l.yielded) l.definitions ≡ take (length l.yielded) l.others
