use Rattle.std.proofs.Common.{ap, sym, ◌∙◌, ◌-◌, Some, set, arith}
use Rattle.std.proofs.lemmas.Option.{slice_get-get_or}
use Rattle.term_changes.specs.Slots.{Store}
use Rattle.change_log.proofs.FlipLemmas.{before_keeps_texts}
use Rattle.session_history.specs.History.{step_back}
use Rattle.session_history.specs.Unfolded.{Logged, unfolded}
use Rattle.session_history.specs.inside.View.{logged}
use Rattle.session_history.proofs.StepLemmas.{on_false}
use Rattle.session_history.proofs.PlaceLemmas.{placed_back, unfolded_back}
use Rattle.session_history.proofs.timeline.Timeline.back.Goals as goal

pub invariant_of-self : goal.invariant_of-self
invariant_of-self c =
    let t = logged c.self.inside in
    let some = rw (← c.self.view_is) at c.requires.some in
    placed_back t (t.position - 1) c.flip_back.new.store (set t.logs (t.position - 1) c.flip_back.new.self)
    c.index_mut-step.result.now (rw (← c.self.view_is) at c.requires.outside)
    (omega (arith, some, c.self.invariant.within))
    (slice_get-get_or t.logs (t.position - 1) c.index_mut-step.result.now (omega (arith, some, c.self.invariant.within))
    ∙ ap Some (sym c.index_mut-step.ensures.value)) c.self.invariant
    (omega (arith, some)) c.flip_back.ensures.store (ap (set t.logs (t.position - 1)) c.flip_back.ensures.step)

pub returns-clause-moves : goal.returns-clause-moves
returns-clause-moves c = record {
  value = λ ps.
      let t = logged c.self.inside in
      let some = rw (← c.self.view_is) at c.requires.some in
      ap (λ (o : Logged). step_back (unfolded ps o)) (sym c.self.view_is)
      ∙ unfolded_back t (t.position - 1) c.flip_back.new.store (set t.logs (t.position - 1) c.flip_back.new.self)
      c.index_mut-step.result.now (rw (← c.self.view_is) at c.requires.outside)
      (omega (arith, some, c.self.invariant.within))
      (slice_get-get_or t.logs (t.position - 1) c.index_mut-step.result.now
      (omega (arith, some, c.self.invariant.within)) ∙ ap Some (sym c.index_mut-step.ensures.value)) c.self.invariant
      (omega (arith, some)) c.flip_back.ensures.store (ap (set t.logs (t.position - 1)) c.flip_back.ensures.step) ps;
  texts = rw (← c.self.view_is)
      (on_false c.has_text-has_text.result (λ none. ap (λ (s : Store). s.modules) c.flip_back.ensures.store
      ∙ before_keeps_texts c.index_mut-step.result.now c.self.inside.store (sym c.has_text-has_text.ensures ∙ none)));
}
