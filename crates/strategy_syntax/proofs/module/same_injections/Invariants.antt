use Rattle.std.proofs.Common.{◌≡◌, take, length}
use Rattle.strategy_syntax.proofs.module.same_injections.Given as goal

abbrev pub invariant-loop-injection : goal.invariant-loop-injection
invariant-loop-injection l = take (length l.yielded) l.injections ≡ take (length l.yielded) l.others
