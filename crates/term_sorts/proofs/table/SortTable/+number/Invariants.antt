use Rattle.std.proofs.Common.{◌+◌, ◌*◌, take}
use Rattle.term_sorts.specs.Sorts.{sorts_of}
use Rattle.term_sorts.specs.inside.SortView.{depth, depths}
use Rattle.term_sorts.specs.inside.Tables.{AreNumbers, Extends}
use Rattle.term_sorts.proofs.table.SortTable.+number.Given as goal

abbrev pub decreases-number_of : goal.decreases-number_of
decreases-number_of l = 2 * depth l.sort.now

abbrev pub decreases-numbers_of : goal.decreases-numbers_of
decreases-numbers_of l = 2 * depths (sorts_of l.sorts.now) + 1

abbrev pub invariant-numbers_of-loop-sort : goal.invariant-numbers_of-loop-sort
invariant-numbers_of-loop-sort l = record {
  kept : Extends l.initial.self l.self;
  numbers : AreNumbers l.self.sorts l.numbers.items (take l.sort-index l.sorts);
}
