use Rattle.std.proofs.Common.{sym, ◌∙◌, ◌-◌, length}
use Rattle.strategy_machine.proofs.ResultLemmas.{ok_map}
use Rattle.strategy_machine.proofs.TakeLemmas.{take_each, congruence_is, take_failed, not_over, over_none}
use Rattle.strategy_machine.specs.Turns.{state_of}
use Rattle.strategy_machine.specs.declared.frames.Acts.TheVariants.{List as Listed}
use Rattle.term_core.specs.Tree.{children}
use Rattle.term_changes.specs.Standing.{standing_tree}
use Rattle.strategy_syntax.specs.Heads.{head_of}
use Rattle.strategy_machine.proofs.congruence.take_congruence.Goals as goal

pub returns-clause-ok : goal.returns-clause-ok
returns-clause-ok c = λ W. ok_map c.go_on.result (λ next k. record {
  keeps = λ sub whole h. k.keeps sub whole (take_each W sub whole (state_of c.args.m.now) _ (Listed c.args.strategies)
      c.args.scope 0 c.args.m.now.part c.clear.new.self c.clear.ensures.items
      (congruence_is W (state_of c.args.m.now) (head_of c.args.head.now) c.args.strategies c.args.scope
      c.args.m.now.part
      (length (children (standing_tree c.args.m.now.part)) - 0) (sym c.is_over.ensures ∙ c.if-not-is_over.false)) h);
}) (c.go_on.ensures.ok W)

pub go_on-requires : goal.go_on-requires
go_on-requires c = (over_none c.args.m.now.part c.clear.new.self.items c.clear.ensures.items c.requires).0

pub returns-then-not-is_over-clause-ok : goal.returns-then-not-is_over-clause-ok
returns-then-not-is_over-clause-ok c = λ W. record {
  keeps = λ sub whole h. c.fails.ensures.keeps W sub whole
      (take_failed W sub whole (state_of c.args.m.now) _ c.args.scope c.args.m.now.part
      (not_over W (state_of c.args.m.now) (head_of c.args.head.now) c.args.strategies.now c.args.scope c.args.m.now.part
      (sym c.is_over.ensures ∙ c.if-not-is_over.true)) h);
}
