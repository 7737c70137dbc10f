use Rattle.std.proofs.Common.{refl}
use Rattle.strategy_machine.specs.Hands.{Failed}
use Rattle.strategy_machine.proofs.FailLemmas.{fail_each}
use Rattle.strategy_machine.proofs.WalkLemmas.{popped}
use Rattle.strategy_machine.specs.declared.frames.Frame.TheVariants as frames
use Rattle.strategy_machine.specs.declared.stack.Slot.TheVariants as slots
use Rattle.strategy_machine.proofs.fail.fail_each.Goals as goal

pub pop_walk-walk-requires : goal.pop_walk-walk-requires
pop_walk-walk-requires c = (slots.Each c.requires.0 c.requires.1, c.requires.2, refl)

pub returns-clause-ok : goal.returns-clause-ok
returns-clause-ok c = λ W. record {
  keeps = λ sub whole h. c.fails.ensures.keeps W sub whole
      (fail_each W sub whole _ _ _ _ _ _ _ _ _ c.pop_walk-walk.result c.cut.ensures (popped W sub whole c.args.m.now
      Failed c.pop_walk-walk.new.self (frames.Each c.requires.0 c.requires.1 c.pop_walk-walk.result)
      (c.pop_walk-walk.ensures.items (slots.Each c.requires.0 c.requires.1) c.requires.2) h));
}
