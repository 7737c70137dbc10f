use Rattle.std.proofs.Common.{refl}
use Rattle.strategy_machine.specs.Hands.{Failed}
use Rattle.strategy_machine.proofs.FailLemmas.{fail_test}
use Rattle.strategy_machine.proofs.WalkLemmas.{popped}
use Rattle.strategy_machine.specs.declared.frames.Frame.TheVariants as frames
use Rattle.strategy_machine.specs.declared.stack.Slot.TheVariants as slots
use Rattle.strategy_machine.proofs.fail.fail_test.Goals as goal

pub pop_start-part-requires : goal.pop_start-part-requires
pop_start-part-requires c = (slots.Restore, c.requires, refl)

pub returns-clause-ok : goal.returns-clause-ok
returns-clause-ok c = λ W. record {
  keeps = λ sub whole h. c.fails.ensures.keeps W sub whole
      (fail_test W sub whole _ _ _ _ _ _ _ _ c.pop_start-part.result.edits c.cut.ensures
      (popped W sub whole c.args.m.now Failed c.pop_start-part.new.self (frames.Restore c.pop_start-part.result.part
      c.pop_start-part.result.edits) (c.pop_start-part.ensures.items (slots.Restore) c.requires) h));
}
