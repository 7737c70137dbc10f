use Rattle.std.proofs.Common.{◌≡◌, take, length}
use Rattle.strategy_syntax.proofs.names.same_names.Given as goal

abbrev pub invariant-loop-name : goal.invariant-loop-name
invariant-loop-name l = take (length l.yielded) l.names ≡ take (length l.yielded) l.others
