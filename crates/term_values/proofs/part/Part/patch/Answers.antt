use Rattle.std.proofs.Common.{◌∙◌, ◌++◌, ap}
use Rattle.term_changes.specs.Change.{places}
use Rattle.term_changes.specs.Standing.{standing_change}
use Rattle.term_changes.specs.inside.Trimmed.{item_of}
use Rattle.term_values.proofs.PatchLemmas.{all_places}
use Rattle.term_values.proofs.part.Part.patch.Goals as goal

pub returns-clause-all : goal.returns-clause-all
returns-clause-all c =
    let change = standing_change c.args.self.now in
    ap places c.finish.ensures
    ∙ all_places change c.draft.new.draft
    (c.in_ok-_items.ensures.draft ∙ ap (λ l. item_of change ++ l) c.new-draft.ensures)
