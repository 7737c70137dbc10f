use Rattle.strategy_machine.proofs.GiveLemmas.{failed_whole}
use Rattle.strategy_machine.proofs.WalkLemmas.{none_waits}
use Rattle.strategy_machine.specs.Hands.{Failed}
use Rattle.strategy_machine.proofs.fail.give_failed.Goals as goal

pub returns-in-None-clause-ok : goal.returns-in-None-clause-ok
returns-in-None-clause-ok c = λ W. record {
  keeps = λ sub whole h.
      failed_whole W sub whole _ _ _ _ _ (none_waits W sub whole c.args.m.now Failed c.in-None.ensures h);
}
