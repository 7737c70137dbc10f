use Rattle.std.proofs.Common.{ℕ, refl, sym, subst, List}
use Rattle.std.specs.declared.option.Option.{Option}
use Rattle.strategy_machine.specs.declared.frames.Frame.{Frame}
use Rattle.strategy_machine.specs.inside.Slots.{EndsWith}
use Rattle.strategy_machine.specs.inside.Walks.{LastStepsOver}
use Rattle.strategy_machine.proofs.StepLemmas.{frame_passes, passes_after, frames_stay, frame_ends}
use Rattle.strategy_machine.specs.declared.stack.Slot.TheVariants as slots
use Rattle.strategy_machine.proofs.fail.fail_leftmost.Goals as goal

pub back_to-requires : goal.back_to-requires
back_to-requires c =
    let r = c.requires.run in
    passes_after r.0 r.1 r.2 c.args.m.now c.args.strategy c.args.scope c.args.mark c.pass_child.new.part
    c.pass_child.new.self c.in_ok-edits.field-0
    (c.in_ok-edits.ensures.items (slots.Leftmost c.args.strategy c.args.scope c.args.mark) c.requires.last) r.3

pub returns-in-Some-clause-ok : goal.returns-in-Some-clause-ok
returns-in-Some-clause-ok c =
    let x = slots.Leftmost c.args.strategy c.args.scope c.args.mark in
    let on = subst (λ (o : Option ℕ). LastStepsOver x c.args.m.now.frames c.args.m.now.part o c.pass_child.new.self
    c.pass_child.new.part) c.in-Some.is (c.in_ok-edits.ensures.items x c.requires.last) in
    λ W. record {
      keeps = λ sub whole h. c.begins.ensures.keeps W sub whole
          (frame_passes W sub whole c.args.m.now c.args.strategy c.args.scope c.args.mark c.pass_child.new.part
          c.pass_child.new.self c.in-Some.edits c.back_to.new.self c.cut.new.self on c.cut.ensures
          c.back_to.ensures.cells c.back_to.ensures.mark c.back_to.ensures.stays h);
    }

pub pop_walk-walk-requires : goal.pop_walk-walk-requires
pop_walk-walk-requires c =
    let x = slots.Leftmost c.args.strategy c.args.scope c.args.mark in
    let off = subst (λ (o : Option ℕ). LastStepsOver x c.args.m.now.frames c.args.m.now.part o c.pass_child.new.self
    c.pass_child.new.part) c.in_default.is (c.in_ok-edits.ensures.items x c.requires.last) in
    let same = frames_stay x c.args.m.now.frames c.pass_child.new.self c.args.m.now.part c.pass_child.new.part off in
    (x, subst (λ (gs : List Frame). EndsWith x gs) (sym same) c.requires.last, refl)

pub returns-clause-ok : goal.returns-clause-ok
returns-clause-ok c =
    let x = slots.Leftmost c.args.strategy c.args.scope c.args.mark in
    let off = subst (λ (o : Option ℕ). LastStepsOver x c.args.m.now.frames c.args.m.now.part o c.pass_child.new.self
    c.pass_child.new.part) c.in_default.is (c.in_ok-edits.ensures.items x c.requires.last) in
    let same = frames_stay x c.args.m.now.frames c.pass_child.new.self c.args.m.now.part c.pass_child.new.part off in
    λ W. record {
      keeps = λ sub whole h. c.fails.ensures.keeps W sub whole
          (frame_ends W sub whole c.args.m.now c.args.strategy c.args.scope c.args.mark c.pass_child.new.part
          c.pass_child.new.self c.pop_walk-walk.new.self c.pop_walk-walk.result c.cut-2.new.self off
          (c.pop_walk-walk.ensures.items x (subst (λ (gs : List Frame). EndsWith x gs) (sym same) c.requires.last))
          c.cut-2.ensures h);
    }
