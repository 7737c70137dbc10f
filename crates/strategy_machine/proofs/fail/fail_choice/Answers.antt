use Rattle.std.proofs.Common.{refl, sym, subst, reverse}
use Rattle.strategy_machine.specs.Table.{scopes}
use Rattle.strategy_machine.specs.Hands.{Begin, Failed}
use Rattle.strategy_machine.specs.Turns.{HoldsIn}
use Rattle.strategy_machine.proofs.GiveLemmas.{st}
use Rattle.strategy_machine.proofs.FailLemmas.{fail_choice}
use Rattle.strategy_machine.proofs.WalkLemmas.{popped}
use Rattle.strategy_machine.specs.declared.frames.Frame.TheVariants as frames
use Rattle.strategy_machine.specs.declared.stack.Slot.TheVariants as slots
use Rattle.strategy_machine.proofs.fail.fail_choice.Goals as goal

pub pop_start-part-requires : goal.pop_start-part-requires
pop_start-part-requires c =
    (slots.Choose c.requires.last.0 c.args.otherwise c.args.scope c.args.mark, c.requires.last.1, refl)

pub returns-clause-ok : goal.returns-clause-ok
returns-clause-ok c = λ W. record {
  keeps = λ sub whole h. c.goes_on.ensures.keeps W sub whole (subst (λ p. HoldsIn W sub whole
      (st c.back_to.new.self (scopes c.args.m.now.scopes) c.cut.new.self c.args.m.now.level c.args.m.now.steps
      (reverse c.pop_start-part.new.self)) (Begin c.args.otherwise c.args.scope p)) (sym c.put.ensures)
      (fail_choice W sub whole _ _ _ _ _ _ _ _ _ c.args.otherwise c.args.scope c.pop_start-part.result.part _ _
      c.cut.ensures c.back_to.ensures.cells c.back_to.ensures.mark c.back_to.ensures.stays
      (popped W sub whole c.args.m.now Failed c.pop_start-part.new.self (frames.Choose c.requires.last.0
      c.args.otherwise c.args.scope c.pop_start-part.result.part c.pop_start-part.result.edits c.args.mark)
      (c.pop_start-part.ensures.items (slots.Choose c.requires.last.0 c.args.otherwise c.args.scope c.args.mark)
      c.requires.last.1) h)));
}

pub back_to-requires : goal.back_to-requires
back_to-requires c = let r = c.requires.run in
    (popped r.0 r.1 r.2 c.args.m.now Failed c.pop_start-part.new.self (frames.Choose c.requires.last.0 c.args.otherwise
    c.args.scope c.pop_start-part.result.part c.pop_start-part.result.edits c.args.mark) (c.pop_start-part.ensures.items
    (slots.Choose c.requires.last.0 c.args.otherwise c.args.scope c.args.mark) c.requires.last.1) r.3).opens.is.3
