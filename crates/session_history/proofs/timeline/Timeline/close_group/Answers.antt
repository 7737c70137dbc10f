use Rattle.std.proofs.Common.{subst, ◌∙◌, take}
use Rattle.session_history.specs.inside.Adding.{AddsStep}
use Rattle.session_history.specs.inside.View.{logged}
use Rattle.session_history.proofs.PlaceLemmas.{kept_placed, kept_commits, committed_placed, commits}
use Rattle.session_history.proofs.timeline.Timeline.close_group.Goals as goal

pub invariant_of-self : goal.invariant_of-self
invariant_of-self c =
    kept_placed (logged c.self.inside) c.has_changed.result (rw (← c.self.view_is) at c.requires.inside)
    (rw (← c.self.view_is) at c.has_changed.ensures) c.self.invariant c.if-not-has_changed.true

pub returns-then-not-has_changed-clause-ok : goal.returns-then-not-has_changed-clause-ok
returns-then-not-has_changed-clause-ok c = rw (← c.self.view_is)
    (kept_commits (logged c.self.inside) c.has_changed.result (rw (← c.self.view_is) at c.requires.inside)
    (rw (← c.self.view_is) at c.has_changed.ensures) c.self.invariant c.if-not-has_changed.true)

pub returns-clause-ok : goal.returns-clause-ok
returns-clause-ok c = rw (← c.self.view_is) (
    let t = logged c.self.inside in
    commits t c.has_changed.result (rw (← c.self.view_is) at c.requires.inside)
    (rw (← c.self.view_is) at c.has_changed.ensures) c.self.invariant c.add_log.new.logs.items c.replace-log.result
    c.replace-log.new.dest c.replace-log.ensures.value (c.replace-log.ensures.after ∙ c.new.ensures)
    (subst (λ l. AddsStep (take t.position l) c.replace-log.result c.add_log.new.logs.items)
    c.in_ok-reserve.ensures.items c.add_log.ensures.logs) _ c.add_log.ensures.position c.if-not-has_changed.false)

pub invariant_of-self-2 : goal.invariant_of-self-2
invariant_of-self-2 c =
    let t = logged c.self.inside in
    committed_placed t c.has_changed.result (rw (← c.self.view_is) at c.requires.inside)
    (rw (← c.self.view_is) at c.has_changed.ensures) c.self.invariant c.add_log.new.logs.items c.replace-log.result
    c.replace-log.new.dest c.replace-log.ensures.value (c.replace-log.ensures.after ∙ c.new.ensures)
    (subst (λ l. AddsStep (take t.position l) c.replace-log.result c.add_log.new.logs.items)
    c.in_ok-reserve.ensures.items c.add_log.ensures.logs) _ c.add_log.ensures.position
