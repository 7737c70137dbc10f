use Rattle.strategy_machine.proofs.NameLemmas.{starts_form, starts_spent}
use Rattle.strategy_machine.proofs.ResultLemmas.{ok_map}
use Rattle.strategy_machine.specs.Turns.{state_of}
use Rattle.strategy_machine.proofs.begin.begin.Goals as goal

pub returns-in_default-clause-ok : goal.returns-in_default-clause-ok
returns-in_default-clause-ok g c = record {
  keeps = λ sub whole h. starts_spent _ sub whole (state_of c.args.m.now) c.args.strategy c.args.scope c.args.m.now.part
      c.in_default.ensures h;
}

pub returns-clause-ok : goal.returns-clause-ok
returns-clause-ok g c = ok_map c.take.result (λ next k. record {
  keeps = λ sub whole h. k.keeps sub whole
      (starts_form _ sub whole (state_of c.args.m.now) c.args.strategy c.in-Some.start.strategy c.args.scope
      c.in-Some.start.scope c.args.m.now.part c.in-Some.start.left c.in-Some.ensures h);
}) c.take.ensures.ok
