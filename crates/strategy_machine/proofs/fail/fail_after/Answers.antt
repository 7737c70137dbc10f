use Rattle.std.proofs.Common.{refl}
use Rattle.strategy_machine.specs.Hands.{Failed}
use Rattle.strategy_machine.proofs.FirstLemmas.{fail_after}
use Rattle.strategy_machine.proofs.WalkLemmas.{popped}
use Rattle.strategy_machine.specs.declared.frames.Frame.TheVariants as frames
use Rattle.strategy_machine.specs.declared.stack.Slot.TheVariants as slots
use Rattle.strategy_machine.proofs.fail.fail_after.Goals as goal

pub pop_first-node-requires : goal.pop_first-node-requires
pop_first-node-requires c = (slots.After c.args.edits, c.requires, refl)

pub returns-clause-ok : goal.returns-clause-ok
returns-clause-ok c = λ W. record {
  keeps = λ sub whole h. c.fails.ensures.keeps W sub whole
      (fail_after W sub whole _ _ _ _ _ _ _ _ _ c.args.edits c.cut.ensures (popped W sub whole c.args.m.now Failed
      c.pop_first-node.new.self (frames.After c.pop_first-node.result.node c.pop_first-node.result.part c.args.edits)
      (c.pop_first-node.ensures.items (slots.After c.args.edits) c.requires) h));
}
