use Rattle.std.proofs.Common.{length, ap, sym, arith}
use Rattle.term_match.specs.CellContents.{CellContents}
use Rattle.term_match.proofs.MatchLemmas.{bind_bound, bind_empty, empty_there}
use Rattle.term_match.proofs.cells.Cells.look.Goals as goal

pub returns-in-Some-get : goal.returns-in-Some-get
returns-in-Some-get g c =
    bind_bound _ c.args.variable c.args.value.now c.args.self.now.bindings c.in-Some.i _ c.equals.result
    (sym c.in-Some.ensures) (sym c.in-Some-get.ensures) c.equals.ensures

pub returns-in-None : goal.returns-in-None
returns-in-None g c =
    let empty = empty_there c.args.self.now.bindings c.in-Some.i
    (omega (arith, c.if-i-len.false, c.len.ensures, ap (λ (x : CellContents). length x.bindings) c.self.view_is))
    (sym c.in-None.ensures) in (
      empty,
      bind_empty _ c.args.variable c.args.value.now c.args.self.now.bindings c.in-Some.i (sym c.in-Some.ensures) empty,
    )
