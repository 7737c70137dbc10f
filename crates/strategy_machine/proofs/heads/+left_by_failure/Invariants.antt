use Rattle.std.proofs.Common.{◌≤◌, ℕ}
use Rattle.term_changes.specs.Standing.{standing_tree}
use Rattle.strategy_machine.specs.Table.{scopes}
use Rattle.strategy_machine.specs.inside.Missing.{FailsAhead}
use Rattle.strategy_machine.proofs.heads.+left_by_failure.Given as goal

abbrev pub decreases-left_by_failure : goal.decreases-left_by_failure
decreases-left_by_failure l = l.most

-- if the form examined now fails ahead, the whole does
abbrev pub invariant-inward : goal.invariant-inward
invariant-inward l = record {
  less : l.left ≤ l.fn.steps;
  most : l.most ≤ l.fn.most;
  whole : (d : ℕ) → FailsAhead l.definitions (scopes l.scopes) l.scope l.strategy l.left (standing_tree l.part) d
      → FailsAhead l.definitions (scopes l.scopes) l.fn.scope l.fn.strategy l.fn.steps (standing_tree l.part) d;
}

abbrev pub decreases-inward : goal.decreases-inward
decreases-inward l = l.most
