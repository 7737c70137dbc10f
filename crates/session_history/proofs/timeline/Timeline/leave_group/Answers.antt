use Rattle.std.proofs.Common.{ap, sym, ◌∙◌}
use Rattle.term_changes.specs.Slots.{Store}
use Rattle.change_log.proofs.FlipLemmas.{before_keeps_texts}
use Rattle.session_history.proofs.StepLemmas.{on_false}
use Rattle.session_history.proofs.timeline.Timeline.leave_group.Goals as goal

pub returns-clause-texts : goal.returns-clause-texts
returns-clause-texts c = rw (← c.self.view_is) (on_false c.has_text-has_text.result (λ none.
    ap (λ (s : Store). s.modules) c.roll_back.ensures.store
    ∙ before_keeps_texts c.self.inside.current c.self.inside.store (sym c.has_text-has_text.ensures ∙ none)))
