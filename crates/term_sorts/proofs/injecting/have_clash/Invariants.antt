use Rattle.std.proofs.Common.{◌≡◌, ℕ, ◌<◌, Some}
use Rattle.std.specs.List.{slice_get}
use Rattle.term_sorts.specs.declared.table.Row.{Row}
use Rattle.term_sorts.specs.inside.Gaining.{RowClashes}
use Rattle.term_sorts.specs.inside.TableView.{sorts_in}
use Rattle.term_sorts.proofs.injecting.have_clash.Given as goal

abbrev pub invariant-loop-row : goal.invariant-loop-row
invariant-loop-row l =
    (k : ℕ) → k < l.row-index → (r : Row) → slice_get l.rows k ≡ Some r
    → RowClashes (sorts_in l.rows) r l.to l.gained → ⊥
