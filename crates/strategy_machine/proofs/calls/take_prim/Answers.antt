use Rattle.std.proofs.Common.{refl, sym, ap, ◌∙◌, subst, Some}
use Rattle.strategy_machine.specs.Turns.{state_of, world_of}
use Rattle.strategy_machine.proofs.TakeLemmas.{with_cells, take_failed, take_stops, unbuilt_is, big_is, replaced_in}
use Rattle.strategy_machine.specs.inside.Arguments.{AreBuilt}
use Rattle.strategy_machine.specs.declared.arguments.BuiltAll.{BuiltAll}
use Rattle.strategy_meaning.specs.Meaning.{primitive_answer}
use Rattle.term_core.specs.Size.{fits}
use Rattle.strategy_syntax.specs.Resolved.{resolved_patterns_of}
use Rattle.strategy_meaning.specs.Scopes.{cells_in}
use Rattle.strategy_machine.specs.Table.{scopes, scope_at}
use Rattle.strategy_meaning.specs.Answer.{big, done, at_root}
use Rattle.strategy_machine.proofs.calls.take_prim.Goals as goal

pub returns-in-Nothing-clause-ok : goal.returns-in-Nothing-clause-ok
returns-in-Nothing-clause-ok g c = record {
  keeps = λ sub whole h. c.fails.ensures.keeps _ sub whole
      (with_cells _ sub whole (state_of c.args.m.now) _ c.build_all.ensures.cells
      (take_failed _ sub whole (state_of c.args.m.now) _ c.args.scope c.args.m.now.part
      ((subst (λ (o : BuiltAll). AreBuilt c.args.host.now.room (resolved_patterns_of c.args.patterns.now)
      (cells_in (scope_at (scopes c.args.m.now.scopes) c.args.scope)) c.args.m.now.cells.bindings c.args.m.now.level
      c.build_all.new.arguments.items o) c.in-Nothing.is c.in_ok-built.ensures.ok) c.args.m.now.steps _) h));
}

pub returns-in-Big-clause-ok : goal.returns-in-Big-clause-ok
returns-in-Big-clause-ok g c = record {
  keeps = λ sub whole h. take_stops _ sub whole (state_of c.args.m.now) _ c.args.scope c.args.m.now.part big
      ((subst (λ (o : BuiltAll). AreBuilt c.args.host.now.room (resolved_patterns_of c.args.patterns.now)
      (cells_in (scope_at (scopes c.args.m.now.scopes) c.args.scope)) c.args.m.now.cells.bindings c.args.m.now.level
      c.build_all.new.arguments.items o) c.in-Big.is c.in_ok-built.ensures.ok) c.args.m.now.steps _) h;
}

pub returns-in_default-clause-ok : goal.returns-in_default-clause-ok
returns-in_default-clause-ok g c = record {
  keeps = λ sub whole h. c.fails-in_default.ensures.keeps _ sub whole
      (with_cells _ sub whole (state_of c.args.m.now) _ c.build_all.ensures.cells
      (take_failed _ sub whole (state_of c.args.m.now) _ c.args.scope c.args.m.now.part
      ((subst (λ (o : BuiltAll). AreBuilt c.args.host.now.room (resolved_patterns_of c.args.patterns.now)
      (cells_in (scope_at (scopes c.args.m.now.scopes) c.args.scope)) c.args.m.now.cells.bindings c.args.m.now.level
      c.build_all.new.arguments.items o) c.in-All.is c.in_ok-built.ensures.ok) c.args.m.now.steps _
      ∙ unbuilt_is c.args.host.now.room c.args.m.now.level c.args.m.now.steps
      (primitive_answer (world_of g.M.Meaning.meaning c.args.host.now.definitions.now c.args.host.now.primitives.now
      c.args.host.now.room) c.args.primitive c.build_all.new.arguments.items)
      (λ v. done v c.args.m.now.cells.bindings c.args.m.now.steps (at_root v)) ((ap (primitive_answer
      (world_of g.M.Meaning.meaning c.args.host.now.definitions.now c.args.host.now.primitives.now c.args.host.now.room)
      c.args.primitive) (sym c.deref.ensures.value) ∙ sym c.in_ok-found-in-All.ensures) ∙ c.in_default.is)) h));
}

pub returns-then-not-fits-clause-ok : goal.returns-then-not-fits-clause-ok
returns-then-not-fits-clause-ok g c = record {
  keeps = λ sub whole h. take_stops _ sub whole (state_of c.args.m.now) _ c.args.scope c.args.m.now.part big
      ((subst (λ (o : BuiltAll). AreBuilt c.args.host.now.room (resolved_patterns_of c.args.patterns.now)
      (cells_in (scope_at (scopes c.args.m.now.scopes) c.args.scope)) c.args.m.now.cells.bindings c.args.m.now.level
      c.build_all.new.arguments.items o) c.in-All.is c.in_ok-built.ensures.ok) c.args.m.now.steps _
      ∙ big_is c.args.host.now.room c.args.m.now.level c.args.m.now.steps c.fits.new.self
      (primitive_answer (world_of g.M.Meaning.meaning c.args.host.now.definitions.now c.args.host.now.primitives.now
      c.args.host.now.room) c.args.primitive c.build_all.new.arguments.items)
      (λ v. done v c.args.m.now.cells.bindings c.args.m.now.steps (at_root v))
      ((ap (primitive_answer (world_of g.M.Meaning.meaning c.args.host.now.definitions.now
      c.args.host.now.primitives.now c.args.host.now.room) c.args.primitive) (sym c.deref.ensures.value)
      ∙ sym c.in_ok-found-in-All.ensures) ∙ c.in-Some.is ∙ ap Some (sym c.fits.ensures.stays))
      (ap (fits c.args.host.now.room c.args.m.now.level) c.fits.ensures.stays ∙ sym c.fits.ensures.result
      ∙ c.if-not-fits.true)) h;
}

pub returns-in_ok-replace-in-All-clause-ok : goal.returns-in_ok-replace-in-All-clause-ok
returns-in_ok-replace-in-All-clause-ok g c = record {
  keeps = λ sub whole h. c.gives.ensures.keeps _ sub whole (replaced_in _ sub whole c.args.m.now (record {
    next = c.args.m.now.next;
    part = c.args.m.now.part;
    parts = c.args.m.now.parts;
    spares = c.args.m.now.spares;
    frames = c.args.m.now.frames;
    cells = c.build_all.new.cells;
    scopes = c.args.m.now.scopes;
    trail = c.args.m.now.trail;
    arguments = c.build_all.new.arguments;
    level = c.args.m.now.level;
    steps = c.args.m.now.steps;
  }) _ _ c.args.scope c.args.m.now.part _ (primitive_answer
      (world_of g.M.Meaning.meaning c.args.host.now.definitions.now c.args.host.now.primitives.now c.args.host.now.room)
      c.args.primitive c.build_all.new.arguments.items) _ refl refl refl refl refl c.build_all.ensures.cells
      ((subst (λ (o : BuiltAll). AreBuilt c.args.host.now.room (resolved_patterns_of c.args.patterns.now)
      (cells_in (scope_at (scopes c.args.m.now.scopes) c.args.scope)) c.args.m.now.cells.bindings c.args.m.now.level
      c.build_all.new.arguments.items o) c.in-All.is c.in_ok-built.ensures.ok) c.args.m.now.steps _)
      ((ap (primitive_answer (world_of g.M.Meaning.meaning c.args.host.now.definitions.now
      c.args.host.now.primitives.now c.args.host.now.room) c.args.primitive) (sym c.deref.ensures.value)
      ∙ sym c.in_ok-found-in-All.ensures) ∙ c.in-Some.is ∙ ap Some (sym c.fits.ensures.stays))
      (ap (fits c.args.host.now.room c.args.m.now.level) c.fits.ensures.stays ∙ sym c.fits.ensures.result
      ∙ c.if-not-fits.false) c.in_ok-replace-in-All.ensures h);
}
