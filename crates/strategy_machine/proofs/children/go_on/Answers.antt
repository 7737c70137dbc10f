use Rattle.strategy_machine.proofs.ResultLemmas.{ok_map}
use Rattle.std.proofs.Common.{◌≡◌, refl, ap, ◌∙◌, ◌-◌, ◌∷◌, subst}
use Rattle.strategy_machine.proofs.ChildLemmas.{each_over}
use Rattle.strategy_machine.specs.Frames.{acts_list}
use Rattle.strategy_machine.specs.Turns.{state_of}
use Rattle.strategy_machine.specs.Leading.{node_with}
use Rattle.strategy_machine.proofs.children.go_on.Goals as goal

pub returns-in_default-clause-ok : goal.returns-in_default-clause-ok
returns-in_default-clause-ok c = λ W. ok_map c.end_each.result (λ next k. record {
  keeps = λ sub whole h. k.keeps sub whole (each_over W sub whole (state_of c.args.m.now) c.args.acts c.args.scope
      c.args.index c.saturating_sub-left.result c.args.m.now.part (node_with c.args.m.now.part c.args.m.now.parts.items)
      c.args.m.now.parts (c.saturating_sub-left.ensures ∙ ap (λ x. x - c.args.index) c.child_count-count.ensures)
      c.in_default.ensures refl h);
}) (c.end_each.ensures.ok W)

pub returns-clause-ok : goal.returns-clause-ok
returns-clause-ok c = λ W. c.go_down.ensures.ok W c.args.acts
    (subst (λ k. acts_list c.args.acts k ≡ c.in-Some.strategy.now ∷ acts_list c.in-Some.others (k - 1))
    (c.saturating_sub-left.ensures ∙ ap (λ x. x - c.args.index) c.child_count-count.ensures) c.in-Some.ensures)
