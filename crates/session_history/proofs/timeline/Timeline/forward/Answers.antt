use Rattle.std.proofs.Common.{refl, ap, sym, ◌∙◌, Some, set}
use Rattle.std.proofs.lemmas.Option.{slice_get-get_or}
use Rattle.term_changes.specs.Slots.{Store}
use Rattle.change_log.proofs.FlipLemmas.{after_keeps_texts}
use Rattle.session_history.specs.History.{step_forward}
use Rattle.session_history.specs.Unfolded.{Logged, unfolded}
use Rattle.session_history.specs.inside.View.{logged}
use Rattle.session_history.proofs.StepLemmas.{on_false}
use Rattle.session_history.proofs.PlaceLemmas.{placed_forward, unfolded_forward}
use Rattle.session_history.proofs.timeline.Timeline.forward.Goals as goal

pub invariant_of-self : goal.invariant_of-self
invariant_of-self c =
    let t = logged c.self.inside in
    let some = rw (← c.self.view_is) at c.requires.some in
    placed_forward t t.position c.flip_forward.new.store (set t.logs t.position c.flip_forward.new.self)
    c.index_mut-step.result.now (rw (← c.self.view_is) at c.requires.outside) some
    (slice_get-get_or t.logs t.position c.index_mut-step.result.now some ∙ ap Some (sym c.index_mut-step.ensures.value))
    c.self.invariant
    refl c.flip_forward.ensures.store (ap (set t.logs t.position) c.flip_forward.ensures.step)

pub returns-clause-moves : goal.returns-clause-moves
returns-clause-moves c = record {
  value = λ ps.
      let t = logged c.self.inside in
      let some = rw (← c.self.view_is) at c.requires.some in
      ap (λ (o : Logged). step_forward (unfolded ps o)) (sym c.self.view_is)
      ∙ unfolded_forward t t.position c.flip_forward.new.store (set t.logs t.position c.flip_forward.new.self)
      c.index_mut-step.result.now (rw (← c.self.view_is) at c.requires.outside) some
      (slice_get-get_or t.logs t.position c.index_mut-step.result.now some
      ∙ ap Some (sym c.index_mut-step.ensures.value)) c.self.invariant
      refl c.flip_forward.ensures.store (ap (set t.logs t.position) c.flip_forward.ensures.step) ps;
  texts = rw (← c.self.view_is)
      (on_false c.has_text-has_text.result (λ none. ap (λ (s : Store). s.modules) c.flip_forward.ensures.store
      ∙ after_keeps_texts c.index_mut-step.result.now c.self.inside.store (sym c.has_text-has_text.ensures ∙ none)));
}
