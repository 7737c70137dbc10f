use Rattle.std.proofs.Common.{arith, ◌-◌, length}
use Rattle.strategy_machine.proofs.ResultLemmas.{ok_map}
use Rattle.strategy_machine.proofs.TakeLemmas.{take_each, child_is, over_none}
use Rattle.strategy_machine.specs.Turns.{state_of}
use Rattle.strategy_machine.specs.declared.frames.Acts.TheVariants.{List as Listed}
use Rattle.term_core.specs.Tree.{children}
use Rattle.term_changes.specs.Standing.{standing_tree}
use Rattle.strategy_machine.proofs.congruence.take_child.Goals as goal

pub returns-clause-ok : goal.returns-clause-ok
returns-clause-ok c = λ W. ok_map c.go_on.result (λ next k. record {
  keeps = λ sub whole h. k.keeps sub whole (take_each W sub whole (state_of c.args.m.now) _ (Listed c.from_ref.result)
      c.args.scope (c.args.number - 1) c.args.m.now.part c.clear.new.self c.clear.ensures.items
      (child_is W (state_of c.args.m.now) c.args.inner c.from_ref.result c.args.scope c.args.number
      (c.args.number - 1) (length (children (standing_tree c.args.m.now.part)) - (c.args.number - 1)) c.args.m.now.part
      c.from_ref.ensures.value (omega (arith, c.if-number-eq0.false))) h);
}) (c.go_on.ensures.ok W)

pub go_on-requires : goal.go_on-requires
go_on-requires c = (over_none c.args.m.now.part c.clear.new.self.items c.clear.ensures.items c.requires).0
