use Rattle.std.proofs.Common.{◌≡◌, [], length, replicate, drop}
use Rattle.strategy_check.specs.Tables.{definitions_of}
use Rattle.strategy_check.specs.inside.Grouping.{with_definitions}
use Rattle.strategy_check.proofs.groups.group_definitions.Given as goal

-- the rest gives what the whole gave
abbrev pub invariant-loop-named : goal.invariant-loop-named
invariant-loop-named l =
    with_definitions l.table l.groups.items (definitions_of (drop l.named-index l.modules))
    ≡ with_definitions l.table (replicate (length l.table.definitions) []) (definitions_of l.modules)
