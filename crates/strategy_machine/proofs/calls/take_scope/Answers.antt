use Rattle.std.proofs.Common.{refl, sym, ap, ◌∙◌, ◌++◌, subst, None, length, replicate, reverse}
use Rattle.strategy_meaning.specs.Laws.{in_room}
use Rattle.strategy_machine.specs.Table.{scopes, scope_at}
use Rattle.strategy_meaning.specs.Scopes.{with_variables}
use Rattle.term_match.specs.CellContents.{CellContents}
use Rattle.term_match.specs.Marks.{mark_of, Before, Stays}
use Rattle.strategy_machine.specs.Turns.{State, HoldsIn, state_of}
use Rattle.strategy_machine.specs.inside.Endings.{frames_of}
use Rattle.strategy_machine.specs.Hands.{Begin}
use Rattle.term_changes.specs.Standing.{Standing}
use Rattle.strategy_machine.proofs.TakeLemmas.{take_opened}
use Rattle.strategy_machine.proofs.ScopeLemmas.{one_more_starts, one_more_there, one_more_is}
use Rattle.strategy_machine.proofs.calls.take_scope.Goals as goal

pub add_variables-requires-clause-there : goal.add_variables-requires-clause-there
add_variables-requires-clause-there c = c.in_ok-end_cells.ensures.there

pub returns-clause-ok : goal.returns-clause-ok
returns-clause-ok c = λ V. let W = in_room c.args.room V in record {
  keeps = λ sub whole h.
      c.begins.ensures.keeps W sub whole (let r = c.in_ok-end_cells.ensures in
      let mid = c.end_cells.new.m in
      let es = scopes c.add_variables.new.self in
      let D = c.open_cells.new.self in
      let there : State = record {
        cells = D;
        scopes = es;
        trail = mid.trail;
        level = mid.level;
        frames = reverse mid.frames;
        steps = mid.steps;
      } in
      subst (λ (q : Standing). HoldsIn W sub whole there (Begin c.args.strategy c.in_ok-inner.inner q)) (sym r.part) (
      subst (λ (S : State). HoldsIn W sub whole S (Begin c.args.strategy c.in_ok-inner.inner c.args.m.now.part))
      (λ i. record {
        cells = D;
        scopes = es;
        trail = sym r.rest.1 i;
        level = sym r.rest.3 i;
        frames = reverse mid.frames;
        steps = sym r.rest.4 i;
      })
      (take_opened W sub whole (state_of c.args.m.now) _ c.args.strategy c.args.scope c.in_ok-inner.inner
      c.args.m.now.part (with_variables (scope_at (scopes c.args.m.now.scopes) c.args.scope)
      (length c.args.m.now.cells.bindings) c.args.count) (replicate c.args.count None)
      D es (frames_of mid) refl
      (one_more_there _ _ _ c.in_ok-inner.ensures.number c.in_ok-inner.ensures.ok)
      (one_more_is _ _ _ c.in_ok-inner.ensures.number c.in_ok-inner.ensures.ok
      ∙ (λ i. with_variables (r.same i) (c.count-first.ensures i) c.args.count))
      (c.in_ok-open_cells.ensures.ok ∙ ap (λ (C : CellContents). C.bindings ++ replicate c.args.count None) r.rest.0)
      (λ a k x. r.room W sub whole c.args.m.now.part a x D es (one_more_starts _ _ _ c.in_ok-inner.ensures.ok)
      (subst (λ (C : CellContents). Before (mark_of C) (mark_of D)) r.rest.0 c.open_cells.ensures.later)
      (subst (λ (C : CellContents). Stays (mark_of C) C D) r.rest.0 c.open_cells.ensures.stays)) h)));
}
