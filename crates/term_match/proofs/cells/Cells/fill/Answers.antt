use Rattle.std.proofs.Common.{[], ◌∷◌, ◌++◌, set, ap, ◌∙◌, Some}
use Rattle.term_match.specs.CellContents.{CellContents}
use Rattle.term_match.proofs.MarkLemmas.{fill_grows}
use Rattle.term_match.proofs.cells.Cells.fill.Goals as goal

pub returns-in-Ok-clause-grows : goal.returns-in-Ok-clause-grows
returns-in-Ok-clause-grows c =
    let v = c.self.view_is in
    fill_grows c.args.self.now _ c.args.i (Some c.args.value) c.requires
    (λ k. set (v k).bindings c.args.i (c.replace.ensures.after k))
    (c.in-Ok.ensures.items ∙ ap (λ (x : CellContents). x.filled ++ c.args.i ∷ []) v)
