use Rattle.std.proofs.Common.{arith}
use Rattle.term_sorts.proofs.SortLemmas.{arguments_depth, depths-item}
use Rattle.term_sorts.proofs.TableLemmas.{extends_on, numbers_extend, numbers_more}
use Rattle.term_sorts.proofs.table.SortTable.+number.Goals as goal

pub number_of-numbers_of-requires : goal.number_of-numbers_of-requires
number_of-numbers_of-requires t c =
    (omega (arith, arguments_depth c.args.sort.now c.arguments.result.now c.arguments.ensures, c.decreases), tt)

pub numbers_of-number_of-requires : goal.numbers_of-number_of-requires
numbers_of-number_of-requires t c = (
  omega (
    arith,
    depths-item c.args.sorts.now c.loop-sort.sort-index c.sort-item.result c.loop-sort-test.true c.sort-item.is,
    c.decreases,
  ),
  tt,
)

pub numbers_of-loop-sort-preserved : goal.numbers_of-loop-sort-preserved
numbers_of-loop-sort-preserved t c =
    let here = c.loop-sort.self in
    let next = c.number_of.new.self in record {
      kept = extends_on c.args.self.now here next c.loop-sort.invariant.kept c.number_of.ensures.kept;
      numbers = rw c.in_ok-push.ensures.items
          (numbers_more next.sorts c.loop-sort.numbers.items c.args.sorts.now c.loop-sort.sort-index
          c.in_ok-number_of.field-0 c.sort-item.result
          c.loop-sort-test.true c.sort-item.is
          (numbers_extend here next c.number_of.ensures.kept c.loop-sort.numbers.items _ c.loop-sort.invariant.numbers)
          c.in_ok-number_of.ensures.number);
    }

pub numbers_of-returns-in_err-number_of-clause-kept : goal.numbers_of-returns-in_err-number_of-clause-kept
numbers_of-returns-in_err-number_of-clause-kept t c =
    extends_on c.args.self.now c.loop-sort.self c.number_of.new.self c.loop-sort.invariant.kept c.number_of.ensures.kept
