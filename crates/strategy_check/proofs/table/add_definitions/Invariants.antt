use Rattle.std.proofs.Common.{◌≡◌, drop}
use Rattle.strategy_syntax.specs.Lists.{with_new}
use Rattle.strategy_check.specs.Tables.{same_key, keys_of}
use Rattle.strategy_check.proofs.table.add_definitions.Given as goal

-- the rest gives what the whole gave
abbrev pub invariant-loop-definition : goal.invariant-loop-definition
invariant-loop-definition l =
    with_new same_key l.defined.keys (keys_of (drop l.definition-index l.definitions))
    ≡ with_new same_key l.fn.defined.keys (keys_of l.definitions)
