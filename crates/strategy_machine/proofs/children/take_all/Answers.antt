use Rattle.std.proofs.Common.{sym, ◌∙◌}
use Rattle.strategy_machine.proofs.TakeLemmas.{take_each, all_is}
use Rattle.strategy_machine.proofs.AllLemmas.{same_first, all_none}
use Rattle.strategy_machine.proofs.ResultLemmas.{ok_map}
use Rattle.strategy_machine.specs.Turns.{state_of}
use Rattle.strategy_machine.specs.declared.frames.Acts.TheVariants.{Same}
use Rattle.strategy_machine.proofs.children.take_all.Goals as goal

pub returns-then-child_count-eq0-clause-ok : goal.returns-then-child_count-eq0-clause-ok
returns-then-child_count-eq0-clause-ok c = λ W. record {
  keeps = λ sub whole h. c.gives.ensures.keeps W sub whole (all_none W sub whole (state_of c.args.m.now) c.args.strategy
      c.args.scope c.args.m.now.part (sym c.child_count.ensures ∙ c.if-child_count-eq0.true) h);
}

pub returns-clause-ok : goal.returns-clause-ok
returns-clause-ok c = λ W. ok_map c.go_in.result (λ next k. record {
  keeps = λ sub whole h. k.keeps sub whole
      (λ parts none. take_each W sub whole (state_of c.args.m.now) _ (Same c.args.strategy) c.args.scope 0
      c.args.m.now.part parts none (all_is W (state_of c.args.m.now) c.args.strategy c.args.scope c.args.m.now.part) h);
}) (c.go_in.ensures.ok W
    (same_first c.args.strategy _ c.child_count.result c.child_count.ensures c.if-child_count-eq0.false))
