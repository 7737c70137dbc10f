use Rattle.std.proofs.Common.{refl, sym, ap, ◌∙◌}
use Rattle.strategy_machine.proofs.ChildLemmas.{each_begins, each_fails}
use Rattle.strategy_machine.proofs.WalkLemmas.{went_down}
use Rattle.strategy_machine.specs.Turns.{state_of}
use Rattle.strategy_machine.specs.Leading.{parts_now, all_parts}
use Rattle.std.specs.Prelude.{slice_get}
use Rattle.strategy_machine.specs.declared.frames.Frame.TheVariants.{Each}
use Rattle.strategy_machine.proofs.children.go_down.Goals as goal

pub returns-in_default-clause-ok : goal.returns-in_default-clause-ok
returns-in_default-clause-ok c = λ W acts e. record {
  keeps = λ sub whole h. c.fails.ensures.keeps W sub whole (each_fails W sub whole (state_of c.args.m.now) acts
      c.args.others c.args.strategy c.args.scope c.args.index _ c.args.m.now.part c.args.m.now.parts refl e
      (ap (λ ps. slice_get (parts_now c.args.m.now.part (all_parts c.args.m.now.part ps)) c.args.index)
      (sym c.deref.ensures.value) ∙ sym c.in_ok-child.ensures ∙ c.in_default.is) h);
}

pub returns-clause-ok : goal.returns-clause-ok
returns-clause-ok c = λ W acts e. record {
  keeps = λ sub whole h. c.begins.ensures.keeps W sub whole
      (went_down W sub whole _ c.descend.new.m c.in-Some.child c.replace-parts.result c.args.m.now.parts c.args.index
      c.in_ok-walk.walk (λ w. Each c.args.others c.args.scope w) c.wait_with_walk.new.self c.args.strategy c.args.scope
      c.in_ok-walk.ensures.down c.replace-parts.ensures.value c.in_ok-wait_with_walk.ensures.items
      (each_begins W sub whole (state_of c.args.m.now) acts c.args.others c.args.strategy c.args.scope c.args.index _
      c.args.m.now.part c.in-Some.child c.args.m.now.parts refl e
      (ap (λ ps. slice_get (parts_now c.args.m.now.part (all_parts c.args.m.now.part ps)) c.args.index)
      (sym c.deref.ensures.value) ∙ sym c.in_ok-child.ensures ∙ c.in-Some.is) h));
}
