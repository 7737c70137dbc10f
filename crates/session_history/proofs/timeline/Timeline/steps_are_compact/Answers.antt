use Rattle.session_history.proofs.timeline.Timeline.steps_are_compact.Goals as goal

pub returns : goal.returns
returns c = rw (← c.self.view_is) c.self.invariant.compact
