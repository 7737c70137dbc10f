use Rattle.std.proofs.Common.{◌≤◌}
use Rattle.term_core.specs.Tree.{Tree}
use Rattle.strategy_machine.specs.inside.Missing.{Passes, SkipsOver}
use Rattle.strategy_machine.proofs.alternatives.pass_first.Given as goal

abbrev pub decreases-first : goal.decreases-first
decreases-first l = l.rest

-- what remains has the same answer, and the rest of the alternatives are still to be passed over
abbrev pub invariant-first : goal.invariant-first
invariant-first l = record {
  less : l.left ≤ l.fn.steps;
  same : (t : Tree) → SkipsOver l.fn.count l.fn.strategy t
      → Passes l.fn.strategy l.fn.steps t l.strategy l.left × SkipsOver l.rest l.strategy t;
}
