use Rattle.std.proofs.Common.{◌≡◌, Some, refl, subst, sym, ◌∙◌, arith, below_more}
use Rattle.std.specs.List.{slice_get}
use Rattle.std.proofs.lemmas.Option.{slice_get_within, same_Some}
use Rattle.term_sorts.specs.declared.table.Row.{Row}
use Rattle.term_sorts.specs.inside.Gaining.{RowClashes}
use Rattle.term_sorts.specs.inside.TableView.{sorts_in}
use Rattle.term_sorts.proofs.TableLemmas.{read_row}
use Rattle.term_sorts.proofs.injecting.have_clash.Goals as goal

pub returns-then-row_clashes : goal.returns-then-row_clashes
returns-then-row_clashes c = (
  λ e. (
    c.loop-row.row-index,
    c.row-item.result,
    read_row c.args.rows.now c.args.rows.now c.loop-row.row-index c.row-item.result refl c.loop-row-test.true
        c.row-item.is,
    c.row_clashes.ensures.0 c.if-row_clashes.true,
  ),
  λ h. refl,
)

pub loop-row-preserved : goal.loop-row-preserved
loop-row-preserved c =
    let rows = c.args.rows.now in
    let i = c.loop-row.row-index in
    below_more
    (λ k. (r : Row) → slice_get rows k ≡ Some r → RowClashes (sorts_in rows) r c.args.to c.args.gained.now → ⊥) i
    c.loop-row.invariant
    (λ r e h.
    let is = read_row rows rows i c.row-item.result refl c.loop-row-test.true c.row-item.is in
    let yes = c.row_clashes.ensures.1 (subst (λ (x : Row). RowClashes (sorts_in rows) x c.args.to c.args.gained.now)
    (same_Some r c.row-item.result (sym e ∙ is)) h) in
    let not = c.if-row_clashes.false in cc)

pub returns : goal.returns
returns c = (
  λ e. absurd (cc),
  λ h. absurd (c.loop-row.invariant h.0
      (omega (arith, slice_get_within c.args.rows.now h.0 h.1 h.2, c.loop-row-test.false)) h.1 h.2 h.3),
)
