use Rattle.std.proofs.Common.{sym, ap, ◌∙◌}
use Rattle.strategy_syntax.specs.Resolved.{call, resolveds_of, resolved_patterns_of}
use Rattle.strategy_syntax.specs.ResolvedView.{resolved_of}
use Rattle.strategy_machine.specs.Table.{scopes}
use Rattle.strategy_machine.specs.Turns.{world_of}
use Rattle.strategy_machine.proofs.NameLemmas.{some_map, if_map, runs_as, name_runs}
use Rattle.strategy_machine.proofs.names.known_as.Goals as goal

pub returns-in-Param : goal.returns-in-Param
returns-in-Param g c =
    let W =
    world_of g.M.Meaning.meaning c.args.host.now.definitions.now c.args.host.now.primitives.now c.args.host.now.room in
    some_map _ c.named.result (λ known k.
    runs_as W (scopes c.args.scopes.now) _ _ c.args.scope _ _ (c.form.ensures ∙ ap resolved_of c.in-Param.is)
    (name_runs W (scopes c.args.scopes.now) c.in-Param.name c.args.scope known k)) c.named.ensures

pub returns-in-Call : goal.returns-in-Call
returns-in-Call g c =
    let W =
    world_of g.M.Meaning.meaning c.args.host.now.definitions.now c.args.host.now.primitives.now c.args.host.now.room in
    if_map c.ready_body.result (λ known k. runs_as W (scopes c.args.scopes.now) _ _ c.args.scope _ _
    (c.form.ensures ∙ ap resolved_of c.in-Call.is ∙ (λ i. call c.in-Call.definition
    (resolveds_of (sym c.deref.ensures.value i)) (resolved_patterns_of (sym c.deref-in-Call.ensures.value i)))) k)
    c.ready_body.ensures
