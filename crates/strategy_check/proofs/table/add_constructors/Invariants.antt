use Rattle.std.proofs.Common.{◌≡◌, drop}
use Rattle.strategy_syntax.specs.Lists.{with_new}
use Rattle.strategy_check.specs.Tables.{same_constructor}
use Rattle.strategy_check.proofs.table.add_constructors.Given as goal

-- the rest gives what the whole gave
abbrev pub invariant-loop-constructor : goal.invariant-loop-constructor
invariant-loop-constructor l =
    with_new same_constructor l.declared.keys (drop l.constructor-index l.constructors)
    ≡ with_new same_constructor l.fn.declared.keys l.constructors
