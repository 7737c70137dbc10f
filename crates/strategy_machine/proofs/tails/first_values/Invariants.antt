use Rattle.std.proofs.Common.{◌≡◌, map, take}
use Rattle.term_changes.specs.Standing.{standing_tree}
use Rattle.strategy_machine.specs.Leading.{parts_now, all_parts}
use Rattle.strategy_machine.proofs.tails.first_values.Given as goal

abbrev pub invariant-each : goal.invariant-each
invariant-each l = l.all.items ≡ take l.i (map standing_tree (parts_now l.node (all_parts l.node l.parts)))
