use Rattle.std.proofs.Common.{ap, ◌∙◌, ◌∷◌, reverse}
use Rattle.strategy_machine.proofs.GiveLemmas.{give_tail}
use Rattle.strategy_machine.proofs.PartsLemmas.{rest_same}
use Rattle.strategy_machine.proofs.TakeLemmas.{with_frames}
use Rattle.strategy_machine.proofs.OpenLemmas.{pushed}
use Rattle.strategy_machine.specs.Turns.{state_of}
use Rattle.term_changes.specs.Standing.{fresh}
use Rattle.strategy_machine.specs.declared.frames.Frame.TheVariants.{Rest}
use Rattle.strategy_machine.proofs.lists.begin_tail.Goals as goal

pub returns-clause-ok : goal.returns-clause-ok
returns-clause-ok c = λ W. record {
  keeps = λ sub whole h. c.begins.ensures.keeps W sub whole (with_frames W sub whole (state_of c.args.m.now) _ _ _
      (pushed _ _ _ c.in_ok-wait_with_front.ensures.items ∙ (λ i. Rest (c.replace-node.ensures.value i)
      (c.replace-parts.ensures.value i) c.args.count c.args.m.now.trail.count ∷ reverse c.args.m.now.frames))
      (give_tail W sub whole _ _ _ _ _ _ c.args.tail c.args.scope c.args.count c.args.m.now.part c.replace-node.new.dest
      c.args.m.now.parts c.requires.stand
      (c.replace-node.ensures.after ∙ c.new.ensures ∙ ap fresh (c.in_ok-rest.ensures ∙ rest_same c.args.m.now.part
      c.args.m.now.parts.items c.args.count c.requires.stand c.requires.first)) h));
}
