use Rattle.session_history.specs.inside.View.{logged}
use Rattle.session_history.proofs.GroupLemmas.{compacted_placed, compacted_keeps}
use Rattle.session_history.proofs.timeline.Timeline.compact_group.Goals as goal

pub invariant_of-self : goal.invariant_of-self
invariant_of-self c = compacted_placed (logged c.self.inside) c.compact.new.self c.self.invariant
    c.compact.ensures.before c.compact.ensures.fits c.compact.ensures.count

pub returns-clause-same : goal.returns-clause-same
returns-clause-same c = rw (← c.self.view_is) (compacted_keeps (logged c.self.inside) c.compact.new.self
    c.self.invariant c.compact.ensures.before c.compact.ensures.fits c.compact.ensures.count)
