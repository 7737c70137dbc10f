use Rattle.std.proofs.Common.{◌≡◌, ◌-◌, suc, ap, sym, subst, ◌∙◌, option_and_then, arith}
use Rattle.std.specs.Bool.{OnFalse}
use Rattle.session_history.specs.History.{redone}
use Rattle.session_history.specs.Unfolded.{unfolded}
use Rattle.session_history.proofs.StepLemmas.{on_false}
use Rattle.session_history.proofs.timeline.Timeline.forward_by.Goals as goal

pub loop-left-preserved-then-touched : goal.loop-left-preserved-then-touched
loop-left-preserved-then-touched c = record {
  outside = c.forward-has_text.ensures.outside;
  enough = omega (
    arith,
    c.loop-left.invariant.enough,
    c.loop-left-test.true,
    c.forward-has_text.ensures.position,
    c.forward-has_text.ensures.count,
  );
  value = λ ps.
      let one_more : c.loop-left.left ≡ suc (c.loop-left.left - 1) = omega (arith, c.loop-left-test.true) in
      c.loop-left.invariant.value ps ∙ ap (λ n. redone n (unfolded ps c.loop-left.self)) one_more
      ∙ ap (option_and_then (λ h. redone (c.loop-left.left - 1) h)) (c.forward-has_text.ensures.moves.value ps);
  texts = subst (λ b. OnFalse b (c.forward-has_text.new.self.store.modules ≡ c.args.self.now.store.modules))
      (sym c.if-touched.true) tt;
}

pub loop-left-preserved : goal.loop-left-preserved
loop-left-preserved c = record {
  outside = c.forward-has_text.ensures.outside;
  enough = omega (
    arith,
    c.loop-left.invariant.enough,
    c.loop-left-test.true,
    c.forward-has_text.ensures.position,
    c.forward-has_text.ensures.count,
  );
  value = λ ps.
      let one_more : c.loop-left.left ≡ suc (c.loop-left.left - 1) = omega (arith, c.loop-left-test.true) in
      c.loop-left.invariant.value ps ∙ ap (λ n. redone n (unfolded ps c.loop-left.self)) one_more
      ∙ ap (option_and_then (λ h. redone (c.loop-left.left - 1) h)) (c.forward-has_text.ensures.moves.value ps);
  texts = on_false c.forward-has_text.result (λ none.
      subst (λ b. OnFalse b (c.forward-has_text.new.self.store.modules ≡ c.loop-left.self.store.modules)) none
      c.forward-has_text.ensures.moves.texts
      ∙ subst (λ b. OnFalse b (c.loop-left.self.store.modules ≡ c.args.self.now.store.modules)) c.if-touched.false
      c.loop-left.invariant.texts);
}
