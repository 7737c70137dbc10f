use Rattle.std.proofs.Common.{take, ap, ◌∙◌, arith}
use Rattle.std.proofs.lemmas.List.{with_items_is}
use Rattle.term_match.specs.CellContents.{CellContents}
use Rattle.term_match.proofs.MarkLemmas.{back_stays, since_emptied}
use Rattle.term_match.proofs.cells.Cells.back_to.Goals as goal

pub returns-clause-stays : goal.returns-clause-stays
returns-clause-stays c =
    let v = c.self.view_is in
    back_stays c.args.self.now _ c.args.mark
    (with_items_is c.truncate.new.self c.empty_all.new.cells
    (omega (arith, c.empty_all.auto.cells, c.deref_mut.ensures.len, c.truncate.new.self.ok.0))
    ∙ c.empty_all.ensures
    ∙ since_emptied (take c.args.mark.count c.args.self.now.bindings) _ c.args.self.now.filled _ c.args.mark.filled
    (c.deref.ensures.value ∙ ap (λ (x : CellContents). x.filled) v)
    (c.deref_mut.ensures.value ∙ c.truncate.ensures.items ∙ ap (λ (x : CellContents). take c.args.mark.count x.bindings)
    v))
    (c.truncate-2.ensures.items ∙ ap (λ (x : CellContents). take c.args.mark.filled x.filled) v)
