use Rattle.std.proofs.Common.{sym, subst, reverse}
use Rattle.strategy_machine.specs.Table.{scopes}
use Rattle.strategy_machine.specs.Turns.{State, HoldsIn, state_of}
use Rattle.strategy_machine.specs.inside.Endings.{frames_of}
use Rattle.strategy_machine.specs.Hands.{Begin}
use Rattle.term_changes.specs.Standing.{Standing}
use Rattle.strategy_machine.proofs.TakeLemmas.{take_named}
use Rattle.strategy_machine.proofs.ScopeLemmas.{one_more_starts}
use Rattle.strategy_machine.proofs.calls.take_rec.Goals as goal

pub add_name-requires-clause-there : goal.add_name-requires-clause-there
add_name-requires-clause-there c = c.in_ok-end_scopes.ensures.there

pub add_name-requires-clause-written : goal.add_name-requires-clause-written
add_name-requires-clause-written c = c.in_ok-end_scopes.ensures.there

pub returns-clause-ok : goal.returns-clause-ok
returns-clause-ok c = λ W. record {
  keeps = λ sub whole h.
      c.begins.ensures.keeps W sub whole (let r = c.in_ok-end_scopes.ensures in
      let mid = c.end_scopes.new.m in
      let es = scopes c.add_name.new.self in
      let there : State = record {
        cells = mid.cells;
        scopes = es;
        trail = mid.trail;
        level = mid.level;
        frames = reverse mid.frames;
        steps = mid.steps;
      } in
      subst (λ (q : Standing). HoldsIn W sub whole there (Begin c.args.body c.in_ok-inner.inner q)) (sym r.part) (
      subst (λ (S : State). HoldsIn W sub whole S (Begin c.args.body c.in_ok-inner.inner c.args.m.now.part))
      (λ i. record {
        cells = sym r.rest.0 i;
        scopes = es;
        trail = sym r.rest.1 i;
        level = sym r.rest.3 i;
        frames = reverse mid.frames;
        steps = sym r.rest.4 i;
      })
      (take_named W sub whole (state_of c.args.m.now) c.args.whole c.args.body c.args.scope c.in_ok-inner.inner
      c.args.m.now.part (scopes mid.scopes) es (frames_of mid)
      c.requires.whole c.in_ok-inner.ensures.number r.same c.in_ok-inner.ensures.ok
      (λ a x. r.room W sub whole c.args.m.now.part a x es (one_more_starts _ _ _ c.in_ok-inner.ensures.ok)) h)));
}
