use Rattle.std.proofs.Common.{◌∙◌, ap}
use Rattle.term_changes.specs.Slots.{slot_of}
use Rattle.term_changes.proofs.SlotLemmas.{position-slot_of}
use Rattle.change_log.proofs.slots.Slots.find.Goals as goal

pub returns-clause-slot : goal.returns-clause-slot
returns-clause-slot g c =
    c.get_index_of.ensures.index ∙ position-slot_of c.self.inside.slots.entries c.args.name.now
    ∙ ap (λ l. slot_of l c.args.name.now) c.self.view_is
