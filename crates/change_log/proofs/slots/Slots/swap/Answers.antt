use Rattle.std.proofs.Common.{◌∙◌}
use Rattle.term_changes.proofs.SlotLemmas.{nothing_put, found_at}
use Rattle.change_log.proofs.slots.Slots.swap.Goals as goal

pub returns-in_default-clause-slots : goal.returns-in_default-clause-slots
returns-in_default-clause-slots g c = nothing_put c.self.inside.slots.entries c.args.self.now c.args.i c.args.other.now
    c.self.view_is c.in_default.ensures.value

pub returns-in_default-clause-other : goal.returns-in_default-clause-other
returns-in_default-clause-other g c = found_at c.self.inside.slots.entries c.args.self.now c.args.i _ c.args.other.now
    c.self.view_is c.in_default.ensures.value

pub returns-clause-other : goal.returns-clause-other
returns-clause-other g c = c.swap.ensures.y_after ∙ found_at c.self.inside.slots.entries c.args.self.now c.args.i _
    c.args.other.now c.self.view_is c.in-Some.ensures.value
