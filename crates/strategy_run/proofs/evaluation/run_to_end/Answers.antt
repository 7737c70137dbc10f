use Rattle.std.proofs.Common.{refl}
use Rattle.strategy_run.proofs.EndLemmas.{starts, after_is}
use Rattle.strategy_machine.specs.Table.{scopes}
use Rattle.strategy_machine.specs.Turns.{world_of}
use Rattle.strategy_run.proofs.evaluation.run_to_end.Goals as goal

pub run-init : goal.run-init
run-init g c = starts
    (world_of g.M.Meaning.meaning c.args.host.now.definitions.now c.args.host.now.primitives.now c.args.host.now.room)
    c.args.m.now c.open_cells.new.self (scopes c.add_variables.new.self) (scopes c.add_variables-2.new.self)
    c.args.strategy.now _ c.args.term.now c.in_ok-scope.scope c.original_within-part.result c.requires.empty
    c.in_ok-open_cells.ensures.ok c.in_ok-scope.ensures.number c.in_ok-scope.ensures.ok
    c.original_within-part.ensures refl

pub run-preserved : goal.run-preserved
run-preserved g c = after_is
    (world_of g.M.Meaning.meaning c.args.host.now.definitions.now c.args.host.now.primitives.now c.args.host.now.room) _
    _ c.turn.new.m c.in-On.is (c.in_ok-turned.ensures.ok.keeps _ _ c.run.invariant)

pub turn-requires-clause-holds : goal.turn-requires-clause-holds
turn-requires-clause-holds g c = (
  (world_of g.M.Meaning.meaning c.args.host.now.definitions.now c.args.host.now.primitives.now c.args.host.now.room),
  _,
  _,
  c.run.invariant,
)

pub returns-in-Done : goal.returns-in-Done
returns-in-Done g c = after_is
    (world_of g.M.Meaning.meaning c.args.host.now.definitions.now c.args.host.now.primitives.now c.args.host.now.room) _
    _ c.turn.new.m c.in-Done.is (c.in_ok-turned.ensures.ok.keeps _ _ c.run.invariant)

pub returns-in-Failed : goal.returns-in-Failed
returns-in-Failed g c = (
  c.turn.new.m.steps,
  after_is
      (world_of g.M.Meaning.meaning c.args.host.now.definitions.now c.args.host.now.primitives.now c.args.host.now.room)
      _ _ c.turn.new.m c.in-Failed.is (c.in_ok-turned.ensures.ok.keeps _ _ c.run.invariant),
)

pub returns-in-Spent : goal.returns-in-Spent
returns-in-Spent g c = after_is
    (world_of g.M.Meaning.meaning c.args.host.now.definitions.now c.args.host.now.primitives.now c.args.host.now.room) _
    _ c.turn.new.m c.in-Spent.is (c.in_ok-turned.ensures.ok.keeps _ _ c.run.invariant)

pub returns-in-Big : goal.returns-in-Big
returns-in-Big g c = after_is
    (world_of g.M.Meaning.meaning c.args.host.now.definitions.now c.args.host.now.primitives.now c.args.host.now.room) _
    _ c.turn.new.m c.in-Big.is (c.in_ok-turned.ensures.ok.keeps _ _ c.run.invariant)
