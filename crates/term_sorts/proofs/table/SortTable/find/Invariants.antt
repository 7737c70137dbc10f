use Rattle.std.proofs.Common.{ℕ, ◌<◌}
use Rattle.term_sorts.specs.inside.Tables.{IsNumber}
use Rattle.term_sorts.proofs.table.SortTable.find.Given as goal

abbrev pub invariant-loop-number : goal.invariant-loop-number
invariant-loop-number l = (k : ℕ) → k < l.number → IsNumber l.self.sorts k l.sort → ⊥
