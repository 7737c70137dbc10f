use Rattle.std.proofs.Common.{refl, subst}
use Rattle.strategy_machine.proofs.TakeLemmas.{take_failed, take_stops, unbuilt_is, big_is, with_cells, replaced_in}
use Rattle.strategy_machine.specs.Turns.{state_of}
use Rattle.term_match.specs.Building.{Builds}
use Rattle.strategy_syntax.specs.Resolved.{builds}
use Rattle.term_match.specs.declared.building.Built.{Built}
use Rattle.strategy_meaning.specs.Answer.{big, at_root, done}
use Rattle.strategy_meaning.specs.Matching.{build_pattern}
use Rattle.strategy_meaning.specs.Scopes.{cells_in}
use Rattle.strategy_meaning.specs.Laws.{in_room}
use Rattle.strategy_machine.specs.Table.{scopes, scope_at}
use Rattle.strategy_machine.proofs.forms.take_build.Goals as goal

pub returns-in-Nothing-clause-ok : goal.returns-in-Nothing-clause-ok
returns-in-Nothing-clause-ok c = λ V. let W = in_room c.args.room V in record {
  keeps = λ sub whole h.
      c.fails.ensures.keeps W sub whole (with_cells W sub whole (state_of c.args.m.now) _ c.build.ensures.same
      (take_failed W sub whole (state_of c.args.m.now) _ c.args.scope c.args.m.now.part
      (unbuilt_is c.args.room c.args.m.now.level c.args.m.now.steps (build_pattern c.args.pattern.now
      (cells_in (scope_at (scopes c.args.m.now.scopes) c.args.scope)) c.args.m.now.cells.bindings)
      (λ v. done v c.args.m.now.cells.bindings c.args.m.now.steps (at_root v)) (subst (λ (o : Built). Builds
      (build_pattern c.args.pattern.now (cells_in (scope_at (scopes c.args.m.now.scopes) c.args.scope))
      c.args.m.now.cells.bindings) c.args.room c.args.m.now.level o) c.in-Nothing.is c.in_ok-build.ensures.ok)) h));
}

pub returns-in-Big-clause-ok : goal.returns-in-Big-clause-ok
returns-in-Big-clause-ok c = λ V. let W = in_room c.args.room V in record {
  keeps = λ sub whole h. let k = subst (λ (o : Built). Builds
      (build_pattern c.args.pattern.now (cells_in (scope_at (scopes c.args.m.now.scopes) c.args.scope))
      c.args.m.now.cells.bindings) c.args.room c.args.m.now.level o) c.in-Big.is c.in_ok-build.ensures.ok in
      take_stops W sub whole (state_of c.args.m.now) _ c.args.scope c.args.m.now.part big
      (big_is c.args.room c.args.m.now.level c.args.m.now.steps k.0
      (build_pattern c.args.pattern.now (cells_in (scope_at (scopes c.args.m.now.scopes) c.args.scope))
      c.args.m.now.cells.bindings) (λ v. done v c.args.m.now.cells.bindings c.args.m.now.steps (at_root v)) k.1 k.2) h;
}

pub returns-in_ok-replace-in-Value-clause-ok : goal.returns-in_ok-replace-in-Value-clause-ok
returns-in_ok-replace-in-Value-clause-ok c = λ V. let W = in_room c.args.room V in record {
  keeps = λ sub whole h. c.gives.ensures.keeps W sub whole (let k = subst (λ (o : Built). Builds
      (build_pattern c.args.pattern.now (cells_in (scope_at (scopes c.args.m.now.scopes) c.args.scope))
      c.args.m.now.cells.bindings) c.args.room c.args.m.now.level o) c.in-Value.is c.in_ok-build.ensures.ok in
      replaced_in W sub whole c.args.m.now (record {
        next = c.args.m.now.next;
        part = c.args.m.now.part;
        parts = c.args.m.now.parts;
        spares = c.args.m.now.spares;
        frames = c.args.m.now.frames;
        cells = c.build.new.self;
        scopes = c.args.m.now.scopes;
        trail = c.args.m.now.trail;
        arguments = c.args.m.now.arguments;
        level = c.args.m.now.level;
        steps = c.args.m.now.steps;
      }) _ (builds c.args.pattern.now) c.args.scope c.args.m.now.part _ (build_pattern c.args.pattern.now
      (cells_in (scope_at (scopes c.args.m.now.scopes) c.args.scope)) c.args.m.now.cells.bindings) c.in-Value.value refl
      refl refl refl refl c.build.ensures.same refl k.0 k.1 c.in_ok-replace-in-Value.ensures h);
}
