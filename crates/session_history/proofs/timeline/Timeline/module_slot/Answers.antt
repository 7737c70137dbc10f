use Rattle.session_history.specs.inside.View.{logged}
use Rattle.session_history.proofs.TimelineLemmas.{module_growth}
use Rattle.session_history.proofs.PlaceLemmas.{slot_placed, slot_same, all_within}
use Rattle.session_history.proofs.timeline.Timeline.module_slot.Goals as goal

pub invariant_of-self : goal.invariant_of-self
invariant_of-self c = slot_placed _ (module_growth c.args.name.now) (logged c.self.inside) c.module_slot.new.self
    c.module_slot.result c.module_slot.ensures.ok c.module_slot.ensures.err c.self.invariant

pub returns-clause-same : goal.returns-clause-same
returns-clause-same c = rw (← c.self.view_is) (slot_same _ (module_growth c.args.name.now) (logged c.self.inside)
    c.module_slot.new.self c.module_slot.result c.module_slot.ensures.ok c.module_slot.ensures.err c.self.invariant)

pub returns-clause-within : goal.returns-clause-within
returns-clause-within c =
    all_within c.module_slot.new.self.modules c.args.name.now c.module_slot.result c.module_slot.ensures.slot
