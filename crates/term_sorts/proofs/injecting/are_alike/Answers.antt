use Rattle.std.proofs.Common.{sym, subst}
use Rattle.term_sorts.specs.Sorts.{Sort, AreAlike}
use Rattle.term_sorts.specs.inside.TableView.{sorts_in}
use Rattle.term_sorts.proofs.TableLemmas.{number_of_row, one_sort}
use Rattle.term_sorts.proofs.injecting.are_alike.Goals as goal

pub returns : goal.returns
returns c =
    let rows = c.args.rows.now in
    let m = c.args.number in
    let n = c.args.other in
    let r = c.in-Some.row.now in
    let q = c.in-Some-at.another.now in
    let e = number_of_row rows m r (sym c.in-Some.ensures) in
    let f = number_of_row rows n q (sym c.in-Some-at.ensures) in (
      λ h. (r.sort, q.sort, e, f, c.is_like.ensures.0 h),
      λ h. c.is_like.ensures.1
          (subst (λ (x : Sort). AreAlike x q.sort) (one_sort (sorts_in rows) m h.0 r.sort h.2 e)
          (subst (λ (x : Sort). AreAlike h.0 x) (one_sort (sorts_in rows) n h.1 q.sort h.3 f) h.4)),
    )
