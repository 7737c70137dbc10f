use Rattle.std.proofs.Common.{◌≡◌, arith, sym, ◌∙◌}
use Rattle.std.proofs.lemmas.Option.{same_Some}
use Rattle.term_sorts.specs.Sorts.{tuple_sort}
use Rattle.term_sorts.proofs.FormLemmas.{tuple_is}
use Rattle.term_sorts.proofs.WantedLemmas.{row_parts, parts_long}
use Rattle.term_sorts.proofs.table.SortTable.parts_of.Goals as goal
use Rattle.term_sorts.proofs.table.SortTable.parts_of.Goals.{then-not-is_tuple-via-then-not-is_tuple, then-not-is_tuple-via-else-not-is_tuple+then-len-count}

pub returns-then-not-is_tuple-clause-none : goal.returns-then-not-is_tuple-clause-none
returns-then-not-is_tuple-clause-none c = λ parts l e.
    let t = c.args.self.now in
    let row = c.in_ok-row.row.now in
    let same : row.sort ≡ tuple_sort parts =
    same_Some row.sort (tuple_sort parts) (sym c.in_ok-row.ensures.row.0 ∙ e) in
    elim c.then-not-is_tuple.branch as (λ _. ⊥) [
      | then-not-is_tuple-via-then-not-is_tuple w ↦
          let yes = c.is_tuple.ensures.1 (tuple_is row.sort c.args.count (parts, same, l)).0 in
          let not = w.if-not-is_tuple.true in cc
      | then-not-is_tuple-via-else-not-is_tuple+then-len-count w ↦
          w.if-len-count.true (w.len.ensures ∙ row.arguments.ok.0 ∙ parts_long t.injections t.sorts row
          c.in_ok-row.ensures.row.1 parts same ∙ l)
    ]

pub returns-clause-some : goal.returns-clause-some
returns-clause-some c =
    let t = c.args.self.now in
    let row = c.in_ok-row.row.now in
    row_parts t.injections t.sorts row c.in_ok-row.ensures.row.1 (c.is_tuple.ensures.0 c.if-not-is_tuple.false)
    c.args.number c.in_ok-row.ensures.row.0
    c.as_slice.result.now c.args.count c.as_slice.ensures.value
    (omega (arith, c.as_slice.ensures.len, c.len.ensures, c.if-len-count.false))
