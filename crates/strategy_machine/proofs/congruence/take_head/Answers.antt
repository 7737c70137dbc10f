use Rattle.std.proofs.Common.{refl, sym, ◌∙◌}
use Rattle.strategy_machine.proofs.FirstLemmas.{head_begins, head_over}
use Rattle.strategy_machine.proofs.WalkLemmas.{went_down}
use Rattle.strategy_machine.specs.Turns.{state_of}
use Rattle.strategy_machine.specs.declared.frames.Frame.TheVariants.{Head}
use Rattle.strategy_machine.proofs.congruence.take_head.Goals as goal

pub returns-in_default-clause-ok : goal.returns-in_default-clause-ok
returns-in_default-clause-ok c = λ W. record {
  keeps = λ sub whole h. c.fails.ensures.keeps W sub whole (head_over W sub whole (state_of c.args.m.now) c.args.first
      c.args.tail c.args.scope c.args.m.now.part c.requires (sym c.in_ok-child.ensures ∙ c.in_default.is) h);
}

pub returns-clause-ok : goal.returns-clause-ok
returns-clause-ok c = λ W. record {
  keeps = λ sub whole h. c.begins.ensures.keeps W sub whole (went_down W sub whole _ c.descend.new.m c.in-Some.child
      c.new.result c.new.result 0 c.in_ok-walk.walk (λ w. Head c.args.tail c.args.scope w) c.wait_with_walk.new.self
      c.args.first c.args.scope c.in_ok-walk.ensures.down refl c.in_ok-wait_with_walk.ensures.items
      (head_begins W sub whole (state_of c.args.m.now) c.args.first c.args.tail c.args.scope c.args.m.now.part
      c.in-Some.child c.new.result c.new.ensures.items c.requires (sym c.in_ok-child.ensures ∙ c.in-Some.is) h));
}
