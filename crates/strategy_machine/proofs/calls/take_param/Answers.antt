use Rattle.strategy_machine.proofs.TakeLemmas.{take_known, take_failed, unknown_is}
use Rattle.strategy_machine.specs.Turns.{state_of}
use Rattle.strategy_machine.proofs.calls.take_param.Goals as goal

pub returns-in-None-clause-ok : goal.returns-in-None-clause-ok
returns-in-None-clause-ok c = λ W. record {
  keeps = λ sub whole h. c.fails.ensures.keeps W sub whole
      (take_failed W sub whole (state_of c.args.m.now) _ c.args.scope c.args.m.now.part
      (unknown_is W (state_of c.args.m.now) c.args.name c.args.scope c.args.m.now.part c.in-None.ensures) h);
}

pub returns-in-Some-clause-ok : goal.returns-in-Some-clause-ok
returns-in-Some-clause-ok c = λ W. record {
  keeps = λ sub whole h. c.begins.ensures.keeps W sub whole (take_known W sub whole (state_of c.args.m.now) c.args.name
      c.args.scope c.args.m.now.part c.in-Some.known c.in-Some.ensures h);
}
