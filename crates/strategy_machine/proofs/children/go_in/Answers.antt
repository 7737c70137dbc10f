use Rattle.std.proofs.Common.{refl, sym, ap, ◌∙◌}
use Rattle.strategy_machine.proofs.ChildLemmas.{each_begins, each_fails}
use Rattle.strategy_machine.proofs.WalkLemmas.{went_down}
use Rattle.strategy_machine.specs.Turns.{state_of}
use Rattle.strategy_machine.specs.Leading.{parts_now, all_parts}
use Rattle.std.specs.Prelude.{slice_get}
use Rattle.strategy_machine.specs.declared.frames.Acts.TheVariants.{Same}
use Rattle.strategy_machine.specs.declared.frames.Frame.TheVariants.{Each}
use Rattle.strategy_machine.proofs.children.go_in.Goals as goal

pub returns-in_default-clause-ok : goal.returns-in_default-clause-ok
returns-in_default-clause-ok c = λ W e. record {
  keeps = λ sub whole h. c.fails.ensures.keeps W sub whole
      (each_fails W sub whole (state_of c.args.m.now) (Same c.args.strategy) (Same c.args.strategy) c.args.strategy
      c.args.scope 0 _ c.args.m.now.part c.new-parts.result refl e
      (ap (λ ps. slice_get (parts_now c.args.m.now.part (all_parts c.args.m.now.part ps)) 0) c.new-parts.ensures.items
      ∙ sym c.in_ok-child.ensures ∙ c.in_default.is) (h c.new-parts.result c.new-parts.ensures.items));
}

pub returns-clause-ok : goal.returns-clause-ok
returns-clause-ok c = λ W e. record {
  keeps = λ sub whole h. c.begins.ensures.keeps W sub whole
      (went_down W sub whole _ c.descend.new.m c.in-Some.child c.new-parts.result c.new-parts.result 0 c.in_ok-walk.walk
      (λ w. Each (Same c.args.strategy) c.args.scope w) c.wait_with_walk.new.self c.args.strategy c.args.scope
      c.in_ok-walk.ensures.down refl c.in_ok-wait_with_walk.ensures.items
      (each_begins W sub whole (state_of c.args.m.now) (Same c.args.strategy) (Same c.args.strategy) c.args.strategy
      c.args.scope 0 _ c.args.m.now.part c.in-Some.child c.new-parts.result refl e
      (ap (λ ps. slice_get (parts_now c.args.m.now.part (all_parts c.args.m.now.part ps)) 0) c.new-parts.ensures.items
      ∙ sym c.in_ok-child.ensures ∙ c.in-Some.is) (h c.new-parts.result c.new-parts.ensures.items)));
}
