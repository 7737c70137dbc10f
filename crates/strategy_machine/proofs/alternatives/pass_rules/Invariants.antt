use Rattle.std.proofs.Common.{◌≤◌}
use Rattle.term_changes.specs.Standing.{standing_tree}
use Rattle.strategy_machine.specs.inside.Missing.{Passes}
use Rattle.strategy_machine.proofs.alternatives.pass_rules.Given as goal

abbrev pub decreases-rules : goal.decreases-rules
decreases-rules l = l.left

-- what remains with the steps left has the same answer
abbrev pub invariant-rules : goal.invariant-rules
invariant-rules l = record {
  less : l.left ≤ l.fn.steps;
  same : Passes l.fn.strategy l.fn.steps (standing_tree l.part) l.strategy l.left;
}
