use Rattle.strategy_machine.proofs.GiveLemmas.{done_whole}
use Rattle.strategy_machine.proofs.WalkLemmas.{none_waits}
use Rattle.strategy_machine.specs.Hands.{Done}
use Rattle.strategy_machine.proofs.give.give_last.Goals as goal

pub returns-in-None-clause-ok : goal.returns-in-None-clause-ok
returns-in-None-clause-ok c = λ W. record {
  keeps = λ sub whole h. let d = done_whole W sub whole _ _ _ _ _ c.args.m.now.part
      (none_waits W sub whole c.args.m.now (Done c.args.m.now.part) c.in-None.ensures h) in
      record { edits = d.edits; leads = d.leads; shows = d.shows; bindings = d.bindings; is = d.is };
}
