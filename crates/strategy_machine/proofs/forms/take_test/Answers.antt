use Rattle.std.proofs.Common.{◌∙◌, ◌∷◌, reverse}
use Rattle.strategy_machine.proofs.TakeLemmas.{with_frames, take_test}
use Rattle.strategy_machine.specs.Turns.{state_of}
use Rattle.strategy_machine.proofs.OpenLemmas.{pushed}
use Rattle.strategy_machine.specs.declared.frames.Frame.TheVariants.{Restore}
use Rattle.strategy_machine.proofs.forms.take_test.Goals as goal

pub returns-clause-ok : goal.returns-clause-ok
returns-clause-ok c = λ W. record {
  keeps = λ sub whole h. c.begins.ensures.keeps W sub whole
      (with_frames W sub whole (state_of c.args.m.now) _ _ _ (pushed _ _ _ c.in_ok-wait_with_start.ensures.items
      ∙ (λ i. Restore (c.in_ok-start.ensures i) c.args.m.now.trail.count ∷ reverse c.args.m.now.frames))
      (take_test W sub whole (state_of c.args.m.now) c.args.inner c.args.scope c.args.m.now.part h));
}
