use Rattle.std.proofs.Common.{refl}
use Rattle.strategy_machine.specs.Hands.{Failed}
use Rattle.strategy_machine.proofs.FailLemmas.{fail_rest}
use Rattle.strategy_machine.proofs.WalkLemmas.{popped}
use Rattle.strategy_machine.specs.declared.frames.Frame.TheVariants as frames
use Rattle.strategy_machine.specs.declared.stack.Slot.TheVariants as slots
use Rattle.strategy_machine.proofs.fail.fail_rest.Goals as goal

pub pop_front-node-requires : goal.pop_front-node-requires
pop_front-node-requires c = (slots.Rest c.requires.0 c.args.edits, c.requires.1, refl)

pub returns-clause-ok : goal.returns-clause-ok
returns-clause-ok c = λ W. record {
  keeps = λ sub whole h. c.fails.ensures.keeps W sub whole
      (fail_rest W sub whole _ _ _ _ _ _ _ _ _ _ c.args.edits c.cut.ensures
      (popped W sub whole c.args.m.now Failed c.pop_front-node.new.self
      (frames.Rest c.pop_front-node.result.node c.pop_front-node.result.parts c.requires.0 c.args.edits)
      (c.pop_front-node.ensures.items (slots.Rest c.requires.0 c.args.edits) c.requires.1) h));
}
