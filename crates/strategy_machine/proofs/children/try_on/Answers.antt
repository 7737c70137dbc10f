use Rattle.std.proofs.Common.{refl, sym, ap, subst, ◌∙◌}
use Rattle.strategy_machine.proofs.ChildLemmas.{walk_at, below, leftmost_begins, leftmost_over}
use Rattle.strategy_machine.proofs.WalkLemmas.{went_down}
use Rattle.strategy_machine.specs.Turns.{state_of, HoldsIn}
use Rattle.term_match.specs.Marks.{kept}
use Rattle.strategy_machine.specs.Hands.{Begin}
use Rattle.strategy_machine.specs.declared.frames.Frame.TheVariants.{Leftmost}
use Rattle.strategy_machine.proofs.children.try_on.Goals as goal

pub returns-in_default-clause-ok : goal.returns-in_default-clause-ok
returns-in_default-clause-ok c = λ W. record {
  keeps = λ sub whole h. c.fails.ensures.keeps W sub whole (leftmost_over W sub whole (state_of c.args.m.now)
      c.args.strategy c.args.scope c.args.index c.args.m.now.part (sym c.in_ok-child.ensures ∙ c.in_default.is) h);
}

pub returns-clause-ok : goal.returns-clause-ok
returns-clause-ok c = λ W. record {
  keeps = λ sub whole h. c.begins.ensures.keeps W sub whole
      (went_down W sub whole _ c.descend.new.m c.in-Some.child c.new.result c.new.result c.args.index c.in_ok-walk.walk
      (λ w. Leftmost c.args.strategy c.args.scope w c.mark-mark.result) c.wait_with_walk.new.self c.args.strategy
      c.args.scope c.in_ok-walk.ensures.down refl c.in_ok-wait_with_walk.ensures.items
      (subst (λ mark. HoldsIn W sub whole (below (state_of c.args.m.now) (Leftmost c.args.strategy c.args.scope
      (walk_at c.args.m.now.part c.new.result c.args.index (state_of c.args.m.now)) mark))
      (Begin c.args.strategy c.args.scope c.in-Some.child)) (sym c.mark-mark.ensures.result)
      (leftmost_begins W sub whole (state_of c.args.m.now) c.args.strategy c.args.scope c.args.index c.args.m.now.part
      c.in-Some.child c.new.result c.new.ensures.items (ap (kept c.args.m.now.cells) (sym c.mark-mark.ensures.result)
      ∙ c.mark-mark.ensures.kept) (sym c.in_ok-child.ensures ∙ c.in-Some.is) h)));
}
