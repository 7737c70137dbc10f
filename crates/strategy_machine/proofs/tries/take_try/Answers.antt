use Rattle.std.proofs.Common.{◌-◌, arith}
use Rattle.strategy_machine.specs.Turns.{state_of, world_of}
use Rattle.strategy_machine.proofs.ResultLemmas.{ok_map}
use Rattle.strategy_machine.proofs.TryLemmas.{try_few, try_begins}
use Rattle.strategy_machine.proofs.tries.take_try.Goals as goal

pub returns-then-m-lt2-clause-ok : goal.returns-then-m-lt2-clause-ok
returns-then-m-lt2-clause-ok g c = λ f ss ps k. record {
  keeps = λ sub whole h. try_few
      (world_of g.M.Meaning.meaning c.args.host.now.definitions.now c.args.host.now.primitives.now c.args.host.now.room)
      sub whole (state_of c.args.m.now) f ss ps c.args.t c.args.scope c.args.m.now.part k
      (omega (arith, c.if-m-lt2.true)) h;
}

pub returns-clause-ok : goal.returns-clause-ok
returns-clause-ok g c = ok_map c.take_guard.result (λ next q. λ f ss ps k. record {
  keeps = λ sub whole h. q.keeps sub whole (try_begins (world_of g.M.Meaning.meaning c.args.host.now.definitions.now
      c.args.host.now.primitives.now c.args.host.now.room) sub whole (state_of c.args.m.now) f ss ps c.args.t
      c.args.scope c.args.m.now.part (c.args.m.now.steps - 2) k (omega (arith, c.if-m-lt2.false)) h);
}) c.take_guard.ensures.ok
