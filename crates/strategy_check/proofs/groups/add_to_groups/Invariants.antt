use Rattle.std.proofs.Common.{◌≡◌, drop}
use Rattle.strategy_check.specs.inside.Grouping.{with_definitions}
use Rattle.strategy_check.proofs.groups.add_to_groups.Given as goal

-- the rest gives what the whole gave
abbrev pub invariant-loop-definition : goal.invariant-loop-definition
invariant-loop-definition l =
    with_definitions l.table l.groups.items (drop l.definition-index l.definitions)
    ≡ with_definitions l.table l.fn.groups.items l.definitions
