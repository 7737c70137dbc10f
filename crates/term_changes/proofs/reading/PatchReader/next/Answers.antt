use Rattle.std.proofs.Common.{suc, ◌-◌, ◌≡◌, sym, ◌∙◌, arith}
use Rattle.term_changes.proofs.ReadingLemmas.{enough_kids, node_read}
use Rattle.term_changes.proofs.reading.PatchReader.next.Goals as goal

pub returns-then-mark-gt0 : goal.returns-then-mark-gt0
returns-then-mark-gt0 c =
    let marks = c.self.inside.marks.now in
    let rest = c.in_ok-mark.marks.now in
    let x = c.in_ok-mark.mark.now in
    let terms = c.self.inside.terms.now in
    let is = c.in_ok-mark.ensures.cases.0 in
    let e : x.kids ≡ suc (x.kids - 1) = omega (arith, c.if-mark-gt0.true) in (
      omega (arith, c.if-mark-gt0.true),
      enough_kids marks rest x is terms c.self.invariant (x.kids - 1) e,
      sym c.self.view_is ∙ node_read marks rest x is terms c.self.invariant (x.kids - 1) e,
    )
