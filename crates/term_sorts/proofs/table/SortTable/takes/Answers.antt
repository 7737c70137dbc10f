use Rattle.std.proofs.Common.{◌↔◌, List, ℕ, IsTrue, subst}
use Rattle.std.specs.List.{Contains}
use Rattle.term_sorts.proofs.WantedLemmas.{takes_is}
use Rattle.term_sorts.proofs.table.SortTable.takes.Goals as goal

pub returns-in-Some : goal.returns-in-Some
returns-in-Some c = λ r e.
    let t = c.args.self.now in
    let row = c.in-Some.row.now in
    takes_is t.injections t.sorts row c.in-Some.ensures.row.1 c.args.wanted c.in-Some.ensures.row.0 c.is_among.result
    c.args.taken
    (subst (λ (l : List ℕ). IsTrue c.is_among.result ↔ Contains l c.args.taken) c.deref.ensures.value
    c.is_among.ensures) r e
