use Rattle.std.proofs.Common.{ℕ, refl, sym, ◌∙◌, subst, reverse, List}
use Rattle.std.specs.declared.option.Option.{Option}
use Rattle.strategy_machine.specs.declared.frames.Frame.{Frame}
use Rattle.strategy_machine.specs.inside.Slots.{EndsWith}
use Rattle.strategy_machine.specs.inside.Walks.{LastStepsOver}
use Rattle.strategy_machine.proofs.StepLemmas.{frame_passes_some, passes_some_after, frames_stay}
use Rattle.strategy_machine.specs.Table.{scopes}
use Rattle.strategy_machine.specs.Hands.{Failed, Those}
use Rattle.strategy_machine.specs.Turns.{HoldsIn}
use Rattle.strategy_machine.proofs.GiveLemmas.{st}
use Rattle.strategy_machine.proofs.ResultLemmas.{ok_map}
use Rattle.strategy_machine.proofs.FailLemmas.{fail_those}
use Rattle.strategy_machine.proofs.WalkLemmas.{popped}
use Rattle.strategy_machine.specs.declared.frames.Frame.TheVariants as frames
use Rattle.strategy_machine.specs.declared.stack.Slot.TheVariants as slots
use Rattle.strategy_machine.proofs.fail.fail_those.Goals as goal

pub back_to-requires : goal.back_to-requires
back_to-requires c =
    let r = c.requires.run in
    passes_some_after r.0 r.1 r.2 c.args.m.now c.args.strategy c.args.scope c.args.mark c.args.any c.pass_child.new.part
    c.pass_child.new.self c.in_ok-edits.field-0
    (c.in_ok-edits.ensures.items (slots.Those c.args.strategy c.args.scope c.args.mark c.args.any) c.requires.last) r.3

pub returns-in-Some-clause-ok : goal.returns-in-Some-clause-ok
returns-in-Some-clause-ok c =
    let x = slots.Those c.args.strategy c.args.scope c.args.mark c.args.any in
    let on = subst (λ (o : Option ℕ). LastStepsOver x c.args.m.now.frames c.args.m.now.part o c.pass_child.new.self
    c.pass_child.new.part) c.in-Some.is (c.in_ok-edits.ensures.items x c.requires.last) in
    λ W. record {
      keeps = λ sub whole h. c.begins.ensures.keeps W sub whole
          (frame_passes_some W sub whole c.args.m.now c.args.strategy c.args.scope c.args.mark c.args.any
          c.pass_child.new.part c.pass_child.new.self c.in-Some.edits c.back_to.new.self c.cut.new.self on c.cut.ensures
          c.back_to.ensures.cells c.back_to.ensures.mark c.back_to.ensures.stays h);
    }

pub pop_walk-walk-requires : goal.pop_walk-walk-requires
pop_walk-walk-requires c =
    let x = slots.Those c.args.strategy c.args.scope c.args.mark c.args.any in
    let off = subst (λ (o : Option ℕ). LastStepsOver x c.args.m.now.frames c.args.m.now.part o c.pass_child.new.self
    c.pass_child.new.part) c.in_default.is (c.in_ok-edits.ensures.items x c.requires.last) in
    let same = frames_stay x c.args.m.now.frames c.pass_child.new.self c.args.m.now.part c.pass_child.new.part off in
    let ends = subst (λ (gs : List Frame). EndsWith x gs) (sym same) c.requires.last in
    (x, ends, refl)

pub back_to-requires-2 : goal.back_to-requires-2
back_to-requires-2 c =
    let x = slots.Those c.args.strategy c.args.scope c.args.mark c.args.any in
    let off = subst (λ (o : Option ℕ). LastStepsOver x c.args.m.now.frames c.args.m.now.part o c.pass_child.new.self
    c.pass_child.new.part) c.in_default.is (c.in_ok-edits.ensures.items x c.requires.last) in
    let same = frames_stay x c.args.m.now.frames c.pass_child.new.self c.args.m.now.part c.pass_child.new.part off in
    let ends = subst (λ (gs : List Frame). EndsWith x gs) (sym same) c.requires.last in
    let r = c.requires.run in
    (popped r.0 r.1 r.2 c.args.m.now Failed c.pop_walk-walk.new.self (frames.Those c.args.strategy c.args.scope
    c.pop_walk-walk.result c.args.mark c.args.any) (sym same ∙ c.pop_walk-walk.ensures.items x ends) r.3).opens.is.2

pub returns-clause-ok : goal.returns-clause-ok
returns-clause-ok c =
    let x = slots.Those c.args.strategy c.args.scope c.args.mark c.args.any in
    let off = subst (λ (o : Option ℕ). LastStepsOver x c.args.m.now.frames c.args.m.now.part o c.pass_child.new.self
    c.pass_child.new.part) c.in_default.is (c.in_ok-edits.ensures.items x c.requires.last) in
    let same = frames_stay x c.args.m.now.frames c.pass_child.new.self c.args.m.now.part c.pass_child.new.part off in
    let ends = subst (λ (gs : List Frame). EndsWith x gs) (sym same) c.requires.last in
    λ W. ok_map c.go_over.result (λ next k. record {
      keeps = λ sub whole h. k.keeps sub whole
          (subst (λ p. HoldsIn W sub whole (st c.back_to-2.new.self (scopes c.args.m.now.scopes) c.cut-2.new.self
          c.pop_walk-walk.result.level c.args.m.now.steps (reverse c.pop_walk-walk.new.self)) (Those c.args.strategy
          c.args.scope p c.in-Some-checked_add.next c.args.any c.put_parts.new.place)) (sym c.put.ensures)
          (subst (λ ps. HoldsIn W sub whole (st c.back_to-2.new.self (scopes c.args.m.now.scopes) c.cut-2.new.self
          c.pop_walk-walk.result.level c.args.m.now.steps (reverse c.pop_walk-walk.new.self)) (Those c.args.strategy
          c.args.scope c.pop_walk-walk.result.node c.in-Some-checked_add.next c.args.any ps)) (sym c.put_parts.ensures)
          (fail_those W sub whole _ _ _ _ _ _ _ _ c.args.strategy c.args.scope _ c.pop_walk-walk.result c.args.mark
          c.args.any c.in-Some-checked_add.ensures.1 c.cut-2.ensures c.back_to-2.ensures.cells c.back_to-2.ensures.mark
          c.back_to-2.ensures.stays (popped W sub whole c.args.m.now Failed c.pop_walk-walk.new.self
          (frames.Those c.args.strategy c.args.scope c.pop_walk-walk.result c.args.mark c.args.any)
          (sym same ∙ c.pop_walk-walk.ensures.items x ends) h))));
    }) (c.go_over.ensures.ok W)

pub go_over-requires : goal.go_over-requires
go_over-requires c =
    let x = slots.Those c.args.strategy c.args.scope c.args.mark c.args.any in
    let off = subst (λ (o : Option ℕ). LastStepsOver x c.args.m.now.frames c.args.m.now.part o c.pass_child.new.self
    c.pass_child.new.part) c.in_default.is (c.in_ok-edits.ensures.items x c.requires.last) in
    let same = frames_stay x c.args.m.now.frames c.pass_child.new.self c.args.m.now.part c.pass_child.new.part off in
    let ends = subst (λ (gs : List Frame). EndsWith x gs) (sym same) c.requires.last in
    let r = c.requires.run in
    (subst (λ p. HoldsIn r.0 r.1 r.2 (st c.back_to-2.new.self (scopes c.args.m.now.scopes) c.cut-2.new.self
    c.pop_walk-walk.result.level c.args.m.now.steps (reverse c.pop_walk-walk.new.self)) (Those c.args.strategy
    c.args.scope p c.in-Some-checked_add.next c.args.any c.put_parts.new.place)) (sym c.put.ensures)
    (subst (λ ps. HoldsIn r.0 r.1 r.2 (st c.back_to-2.new.self (scopes c.args.m.now.scopes) c.cut-2.new.self
    c.pop_walk-walk.result.level c.args.m.now.steps (reverse c.pop_walk-walk.new.self)) (Those c.args.strategy
    c.args.scope c.pop_walk-walk.result.node c.in-Some-checked_add.next c.args.any ps)) (sym c.put_parts.ensures)
    (fail_those r.0 r.1 r.2 _ _ _ _ _ _ _ _ c.args.strategy c.args.scope _ c.pop_walk-walk.result c.args.mark c.args.any
    c.in-Some-checked_add.ensures.1 c.cut-2.ensures c.back_to-2.ensures.cells c.back_to-2.ensures.mark
    c.back_to-2.ensures.stays (popped r.0 r.1 r.2 c.args.m.now Failed c.pop_walk-walk.new.self
    (frames.Those c.args.strategy c.args.scope c.pop_walk-walk.result c.args.mark c.args.any)
    (sym same ∙ c.pop_walk-walk.ensures.items x ends) r.3)))).in_hand.2
