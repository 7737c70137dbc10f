use Rattle.std.proofs.Common.{◌≡◌, map, take}
use Rattle.strategy_check.specs.Programs.{joined_definition}
use Rattle.strategy_check.proofs.groups.join_groups.Given as goal

abbrev pub invariant-loop-group : goal.invariant-loop-group
invariant-loop-group g l = l.bodies.items ≡ map (joined_definition l.table l.primitives) (take l.group-index l.groups)
