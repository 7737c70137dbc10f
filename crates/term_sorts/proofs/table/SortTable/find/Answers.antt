use Rattle.std.proofs.Common.{List, ap, sym, subst, length, arith, below_more}
use Rattle.term_sorts.specs.Sorts.{Sort}
use Rattle.term_sorts.specs.inside.Tables.{IsNumber}
use Rattle.term_sorts.proofs.TableLemmas.{number_of_row, one_sort, read_row, number_below}
use Rattle.term_sorts.proofs.table.SortTable.find.Goals as goal

pub loop-number-preserved : goal.loop-number-preserved
loop-number-preserved c =
    let rows = c.self.inside.rows.items in
    let sorts = c.args.self.now.sorts in
    let i = c.loop-number.number in
    let r = c.row-item.result in
    below_more (λ k. IsNumber sorts k c.args.sort.now → ⊥) i c.loop-number.invariant (λ e.
    let is : IsNumber sorts i r.sort =
    subst (λ (l : List Sort). IsNumber l i r.sort) (ap (λ t. t.sorts) c.self.view_is)
    (number_of_row rows i r (read_row rows c.deref-row-items.result.now i r c.deref-row-items.ensures.value
    c.loop-number-test.true c.row-item.is)) in
    let yes = c.if-equals.ensures.1 (one_sort sorts i r.sort c.args.sort.now is e) in cc)

pub returns-clause-none : goal.returns-clause-none
returns-clause-none c = λ h.
    let e = subst (λ (l : List Sort). IsNumber l h.0 c.args.sort.now) (sym (ap (λ t. t.sorts) c.self.view_is)) h.1 in
    c.loop-number.invariant h.0
    (omega (
      arith,
      number_below c.self.inside.rows.items h.0 c.args.sort.now e,
      ap length c.deref-row-items.ensures.value,
      c.loop-number-test.false,
    )) h.1
