use Rattle.std.proofs.Common.{ℕ, ◌<◌, get_or}
use Rattle.std.specs.declared.option.Option.{Option}
use Rattle.term_sorts.specs.Sorts.{Sort, list_sort}
use Rattle.term_sorts.specs.inside.Tables.{IsNumber}
use Rattle.term_sorts.proofs.table.SortTable.elements.Given as goal

abbrev pub invariant-loop-taken : goal.invariant-loop-taken
invariant-loop-taken l =
    (k : ℕ) → k < l.taken-index → (element : Option Sort)
    → IsNumber l.self.sorts (get_or l.taken-items k 0) (list_sort element) → ⊥
