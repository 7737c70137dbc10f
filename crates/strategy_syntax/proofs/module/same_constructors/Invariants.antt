use Rattle.std.proofs.Common.{◌≡◌, take, length}
use Rattle.strategy_syntax.proofs.module.same_constructors.Given as goal

abbrev pub invariant-loop-constructor : goal.invariant-loop-constructor
invariant-loop-constructor l = take (length l.yielded) l.constructors ≡ take (length l.yielded) l.others
