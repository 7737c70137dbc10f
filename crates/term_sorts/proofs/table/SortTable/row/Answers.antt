use Rattle.std.proofs.Common.{List, ap, ◌∙◌, subst}
use Rattle.std.specs.List.{slice_get}
use Rattle.term_sorts.specs.Sorts.{TakeNoneAlike}
use Rattle.term_sorts.specs.inside.Tables.{Table}
use Rattle.term_sorts.specs.inside.Wanting.{IsRowOf}
use Rattle.term_sorts.specs.declared.table.Row.{Row}
use Rattle.term_sorts.proofs.WantedLemmas.{is_row_of}
use Rattle.term_sorts.proofs.table.SortTable.row.Goals as goal

pub returns-in_err-wanted-clause-agreed : goal.returns-in_err-wanted-clause-agreed
returns-in_err-wanted-clause-agreed c =
    subst (λ (t : Table). TakeNoneAlike t.injections) c.self.view_is c.self.invariant.agreed

pub returns-clause-row : goal.returns-clause-row
returns-clause-row c =
    let rows = c.self.inside.rows.items in
    let n = c.in_ok-wanted.field-0 in
    subst (λ (t : Table). IsRowOf t c.args.wanted c.at.result) c.self.view_is
    (is_row_of rows c.self.inside.injections.items c.self.invariant n c.args.wanted c.at.result c.in_ok-wanted.was
    (c.at.ensures ∙ ap (λ (l : List Row). slice_get l n) c.deref.ensures.value))

pub returns-clause-agreed : goal.returns-clause-agreed
returns-clause-agreed c = subst (λ (t : Table). TakeNoneAlike t.injections) c.self.view_is c.self.invariant.agreed
