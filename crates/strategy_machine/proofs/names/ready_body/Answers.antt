use Rattle.strategy_syntax.specs.Resolved.{resolveds_of, resolved_patterns_of}
use Rattle.strategy_machine.specs.Table.{scopes}
use Rattle.strategy_machine.specs.Turns.{world_of}
use Rattle.strategy_machine.proofs.CallLemmas.{slice_there}
use Rattle.strategy_machine.proofs.HeadLemmas.{no_patterns}
use Rattle.strategy_machine.proofs.NameLemmas.{body_runs}
use Rattle.strategy_machine.proofs.names.ready_body.Goals as goal

pub returns : goal.returns
returns g c = body_runs
    (world_of g.M.Meaning.meaning c.args.host.now.definitions.now c.args.host.now.primitives.now c.args.host.now.room)
    (scopes c.args.scopes.now) c.args.definition (resolveds_of c.args.strategies.now)
    (resolved_patterns_of c.args.patterns.now) c.in_ok-body.body.now c.args.scope c.in_ok-inside.inside
    (no_patterns c.args.patterns.now c.if-patterns-ne0.false)
    (slice_there c.args.host.now.definitions.now c.args.definition c.in_ok-body.body.now c.in_ok-body.ensures.lookup.3.0
    (c.in_ok-body.ensures.lookup.3.1 c.in_ok-body.body.now))
    c.if-body-ne0.false c.in_ok-inside.ensures.there c.in_ok-inside.ensures.scope
