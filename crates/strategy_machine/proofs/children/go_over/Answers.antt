use Rattle.std.proofs.Common.{sym, ap, subst, ◌∙◌}
use Rattle.strategy_machine.proofs.ChildLemmas.{walk_at, below, those_begin, those_over, those_none}
use Rattle.strategy_machine.proofs.WalkLemmas.{went_down}
use Rattle.strategy_machine.specs.Turns.{state_of, HoldsIn}
use Rattle.term_match.specs.Marks.{kept}
use Rattle.strategy_machine.specs.Hands.{Begin}
use Rattle.strategy_machine.specs.Leading.{parts_now, all_parts}
use Rattle.std.specs.Prelude.{slice_get}
use Rattle.strategy_machine.specs.declared.frames.Frame.TheVariants.{Those}
use Rattle.strategy_machine.proofs.children.go_over.Goals as goal

pub returns-then-not-any-clause-ok : goal.returns-then-not-any-clause-ok
returns-then-not-any-clause-ok c = λ W. record {
  keeps = λ sub whole h. c.fails.ensures.keeps W sub whole (those_none W sub whole (state_of c.args.m.now)
      c.args.strategy c.args.scope c.args.index c.args.m.now.part c.args.any c.args.m.now.parts
      (ap (λ ps. slice_get (parts_now c.args.m.now.part (all_parts c.args.m.now.part ps)) c.args.index)
      (sym c.deref.ensures.value) ∙ sym c.in_ok-child.ensures ∙ c.in_default.is) c.if-not-any.true h);
}

pub returns-in_default-clause-ok : goal.returns-in_default-clause-ok
returns-in_default-clause-ok c = λ W. record {
  keeps = λ sub whole h. c.gives.ensures.keeps W sub whole (those_over W sub whole (state_of c.args.m.now)
      c.args.strategy c.args.scope c.args.index c.args.m.now.part c.finish.new.node c.args.any c.args.m.now.parts
      (ap (λ ps. slice_get (parts_now c.args.m.now.part (all_parts c.args.m.now.part ps)) c.args.index)
      (sym c.deref.ensures.value) ∙ sym c.in_ok-child.ensures ∙ c.in_default.is) c.if-not-any.false
      c.in_ok-finish.ensures h);
}

pub returns-clause-ok : goal.returns-clause-ok
returns-clause-ok c = λ W. record {
  keeps = λ sub whole h. c.begins.ensures.keeps W sub whole
      (went_down W sub whole _ c.descend.new.m c.in-Some.child c.replace-parts.result c.args.m.now.parts c.args.index
      c.in_ok-walk.walk (λ w. Those c.args.strategy c.args.scope w c.mark-mark.result c.args.any)
      c.wait_with_walk.new.self c.args.strategy c.args.scope c.in_ok-walk.ensures.down c.replace-parts.ensures.value
      c.in_ok-wait_with_walk.ensures.items
      (subst (λ mark. HoldsIn W sub whole (below (state_of c.args.m.now) (Those c.args.strategy c.args.scope
      (walk_at c.args.m.now.part c.args.m.now.parts c.args.index (state_of c.args.m.now)) mark c.args.any))
      (Begin c.args.strategy c.args.scope c.in-Some.child)) (sym c.mark-mark.ensures.result)
      (those_begin W sub whole (state_of c.args.m.now) c.args.strategy c.args.scope c.args.index c.args.m.now.part
      c.in-Some.child c.args.any c.args.m.now.parts (ap (kept c.args.m.now.cells) (sym c.mark-mark.ensures.result)
      ∙ c.mark-mark.ensures.kept) (ap (λ ps. slice_get (parts_now c.args.m.now.part (all_parts c.args.m.now.part ps))
      c.args.index) (sym c.deref.ensures.value) ∙ sym c.in_ok-child.ensures ∙ c.in-Some.is) h)));
}
