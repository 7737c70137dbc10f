use Rattle.std.proofs.Common.{◌≡◌, take, length}
use Rattle.strategy_syntax.proofs.module.same_declarations.Given as goal

abbrev pub invariant-loop-declaration : goal.invariant-loop-declaration
invariant-loop-declaration l = take (length l.yielded) l.declarations ≡ take (length l.yielded) l.others
