use Rattle.session_history.specs.inside.View.{logged}
use Rattle.session_history.proofs.TimelineLemmas.{tree_growth}
use Rattle.session_history.proofs.PlaceLemmas.{slot_placed, slot_same, all_within}
use Rattle.session_history.proofs.timeline.Timeline.tree_slot.Goals as goal

pub invariant_of-self : goal.invariant_of-self
invariant_of-self c = slot_placed _ (tree_growth c.args.name.now) (logged c.self.inside) c.tree_slot.new.self
    c.tree_slot.result c.tree_slot.ensures.ok c.tree_slot.ensures.err c.self.invariant

pub returns-clause-same : goal.returns-clause-same
returns-clause-same c = rw (← c.self.view_is) (slot_same _ (tree_growth c.args.name.now) (logged c.self.inside)
    c.tree_slot.new.self c.tree_slot.result c.tree_slot.ensures.ok c.tree_slot.ensures.err c.self.invariant)

pub returns-clause-within : goal.returns-clause-within
returns-clause-within c =
    all_within c.tree_slot.new.self.trees c.args.name.now c.tree_slot.result c.tree_slot.ensures.slot
