use Rattle.std.proofs.Common.{refl, sym, subst, reverse}
use Rattle.strategy_machine.specs.Table.{scopes}
use Rattle.strategy_machine.specs.Hands.{Done}
use Rattle.strategy_machine.specs.Turns.{HoldsIn}
use Rattle.strategy_machine.proofs.GiveLemmas.{st, give_test}
use Rattle.strategy_machine.proofs.WalkLemmas.{popped}
use Rattle.strategy_machine.specs.declared.frames.Frame.TheVariants as frames
use Rattle.strategy_machine.specs.declared.stack.Slot.TheVariants as slots
use Rattle.strategy_machine.proofs.give.give_test.Goals as goal

pub pop_start-part-requires : goal.pop_start-part-requires
pop_start-part-requires c = (slots.Restore, c.requires, refl)

pub returns-clause-ok : goal.returns-clause-ok
returns-clause-ok c = λ W. record {
  keeps = λ sub whole h. c.gives.ensures.keeps W sub whole
      (subst (λ p. HoldsIn W sub whole (st c.args.m.now.cells (scopes c.args.m.now.scopes) c.cut.new.self
      c.args.m.now.level c.args.m.now.steps (reverse c.pop_start-part.new.self)) (Done p)) (sym c.put.ensures)
      (give_test W sub whole _ _ _ _ _ _ _ c.pop_start-part.result.part c.args.m.now.part c.pop_start-part.result.edits
      c.cut.ensures (popped W sub whole c.args.m.now (Done c.args.m.now.part) c.pop_start-part.new.self
      (frames.Restore c.pop_start-part.result.part c.pop_start-part.result.edits)
      (c.pop_start-part.ensures.items (slots.Restore) c.requires) h)));
}
