use Rattle.std.proofs.Common.{◌≡◌, ℕ, ◌<◌, List, length, get_or}
use Rattle.term_sorts.specs.Sorts.{Sort, tuple_sort}
use Rattle.term_sorts.specs.inside.Tables.{IsNumber}
use Rattle.term_sorts.proofs.table.SortTable.parts.Given as goal

abbrev pub invariant-loop-taken : goal.invariant-loop-taken
invariant-loop-taken l =
    (k : ℕ) → k < l.taken-index → (parts : List Sort)
    → length parts ≡ l.count → IsNumber l.self.sorts (get_or l.taken-items k 0) (tuple_sort parts) → ⊥
