use Rattle.std.proofs.Common.{refl, sym, subst}
use Rattle.strategy_machine.specs.Turns.{state_of}
use Rattle.strategy_machine.proofs.TakeLemmas.{with_cells, take_failed, take_stops}
use Rattle.strategy_machine.proofs.CallLemmas.{form_cells, undefined_is, entered, slice_there}
use Rattle.std.proofs.lemmas.Option.{slice_get_past}
use Rattle.strategy_machine.specs.inside.Arguments.{AreBuilt}
use Rattle.strategy_machine.specs.declared.arguments.BuiltAll.{BuiltAll}
use Rattle.strategy_machine.specs.declared.arguments.BuiltAll.TheVariants.{All}
use Rattle.strategy_syntax.specs.Resolved.{resolved_patterns_of, resolveds_of}
use Rattle.strategy_meaning.specs.Scopes.{cells_in}
use Rattle.strategy_machine.specs.Table.{scopes, scope_at}
use Rattle.strategy_meaning.specs.Answer.{big}
use Rattle.strategy_machine.proofs.calls.take_call.Goals as goal

pub returns-in-Nothing-clause-ok : goal.returns-in-Nothing-clause-ok
returns-in-Nothing-clause-ok g c = record {
  keeps = λ sub whole h. c.fails.ensures.keeps _ sub whole
      (with_cells _ sub whole (state_of c.args.m.now) _ c.build_all.ensures.cells
      (take_failed _ sub whole (state_of c.args.m.now) _ c.args.scope c.args.m.now.part
      ((subst (λ (o : BuiltAll). AreBuilt c.args.host.now.room (resolved_patterns_of c.args.patterns.now)
      (cells_in (scope_at (scopes c.args.m.now.scopes) c.args.scope)) c.args.m.now.cells.bindings c.args.m.now.level
      c.build_all.new.arguments.items o) c.in-Nothing.is c.in_ok-built.ensures.ok) c.args.m.now.steps _) h));
}

pub returns-in-Big-clause-ok : goal.returns-in-Big-clause-ok
returns-in-Big-clause-ok g c = record {
  keeps = λ sub whole h. take_stops _ sub whole (state_of c.args.m.now) _ c.args.scope c.args.m.now.part big
      ((subst (λ (o : BuiltAll). AreBuilt c.args.host.now.room (resolved_patterns_of c.args.patterns.now)
      (cells_in (scope_at (scopes c.args.m.now.scopes) c.args.scope)) c.args.m.now.cells.bindings c.args.m.now.level
      c.build_all.new.arguments.items o) c.in-Big.is c.in_ok-built.ensures.ok) c.args.m.now.steps _) h;
}

pub returns-in-None-clause-ok : goal.returns-in-None-clause-ok
returns-in-None-clause-ok g c = record {
  keeps = λ sub whole h. c.fails-in-None.ensures.keeps _ sub whole
      (with_cells _ sub whole (state_of c.args.m.now) _ c.build_all.ensures.cells
      (take_failed _ sub whole (state_of c.args.m.now) _ c.args.scope c.args.m.now.part
      (undefined_is _ (state_of c.args.m.now) c.args.definition (resolveds_of c.args.strategies.now)
      (resolved_patterns_of c.args.patterns.now) c.args.scope c.args.m.now.part _
      (subst (λ (o : BuiltAll). AreBuilt c.args.host.now.room (resolved_patterns_of c.args.patterns.now)
      (cells_in (scope_at (scopes c.args.m.now.scopes) c.args.scope)) c.args.m.now.cells.bindings c.args.m.now.level
      c.build_all.new.arguments.items o) c.in-All.is c.in_ok-built.ensures.ok)
      (slice_get_past c.args.host.now.definitions.now c.args.definition (c.in-None.ensures.lookup.3))) h));
}

pub returns-in_ok-inner-in-Some-get-clause-ok : goal.returns-in_ok-inner-in-Some-get-clause-ok
returns-in_ok-inner-in-Some-get-clause-ok g c = record {
  keeps = λ sub whole h. c.begins.ensures.keeps _ sub whole (entered _ sub whole (record {
    next = c.args.m.now.next;
    part = c.args.m.now.part;
    parts = c.args.m.now.parts;
    spares = c.args.m.now.spares;
    frames = c.args.m.now.frames;
    cells = c.build_all.new.cells;
    scopes = c.args.m.now.scopes;
    trail = c.args.m.now.trail;
    arguments = c.build_all.new.arguments;
    level = c.args.m.now.level;
    steps = c.args.m.now.steps;
  }) c.enter.new.m c.args.definition (resolveds_of c.args.strategies.now) (resolved_patterns_of c.args.patterns.now)
      c.in-Some-get.body.now _ c.args.scope c.in_ok-inner-in-Some-get.inner
      (subst (λ C. AreBuilt c.args.host.now.room (resolved_patterns_of c.args.patterns.now)
      (cells_in (scope_at (scopes c.args.m.now.scopes) c.args.scope)) C.bindings c.args.m.now.level
      c.build_all.new.arguments.items All) (sym c.build_all.ensures.cells)
      (subst (λ (o : BuiltAll). AreBuilt c.args.host.now.room (resolved_patterns_of c.args.patterns.now)
      (cells_in (scope_at (scopes c.args.m.now.scopes) c.args.scope)) c.args.m.now.cells.bindings c.args.m.now.level
      c.build_all.new.arguments.items o) c.in-All.is c.in_ok-built.ensures.ok))
      (slice_there c.args.host.now.definitions.now c.args.definition c.in-Some-get.body.now
      c.in-Some-get.ensures.lookup.3.0 (c.in-Some-get.ensures.lookup.3.1 c.in-Some-get.body.now)) refl
      c.in_ok-inner-in-Some-get.ensures
      (form_cells _ sub whole (state_of c.args.m.now) _ c.args.scope c.args.m.now.part c.build_all.new.cells
      c.build_all.ensures.cells h));
}
