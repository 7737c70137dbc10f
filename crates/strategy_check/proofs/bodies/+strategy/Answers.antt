use Rattle.std.proofs.Common.{ap, ◌∙◌}
use Rattle.strategy_syntax.specs.Syntax.{strategies_of, patterns_of}
use Rattle.strategy_syntax.specs.StrategyView.{strategy_of}
use Rattle.strategy_check.specs.Resolving.{resolved_patterns, resolved_strategy, resolved_strategies}
use Rattle.strategy_check.proofs.BodyLemmas.{resolved-next, used}
use Rattle.strategy_check.proofs.bodies.+strategy.Goals as goal

pub resolve_strategies-loop-strategy-preserved : goal.resolve_strategies-loop-strategy-preserved
resolve_strategies-loop-strategy-preserved g t c = record {
  made = resolved-next c.args.table.now c.args.primitives.now c.args.scope.now c.args.strategies.now
      c.loop-strategy.resolved.items c.push.new.self.items c.in_ok-resolve_strategy.field-0
      c.loop-strategy.strategy-index c.strategy-item.result c.loop-strategy-test.true c.strategy-item.is
      c.loop-strategy.invariant.made c.in_ok-push.ensures.items
      (c.in_ok-resolve_strategy.ensures.resolved ∙ ap (λ E. resolved_strategy c.args.table.now c.args.primitives.now E
      c.strategy-item.result) c.loop-strategy.invariant.kept);
  kept = c.in_ok-resolve_strategy.ensures.scope ∙ c.loop-strategy.invariant.kept;
}

pub resolve_form-returns-in_ok-terms-in-Use-clause-resolved :
    goal.resolve_form-returns-in_ok-terms-in-Use-clause-resolved
resolve_form-returns-in_ok-terms-in-Use-clause-resolved g t c =
    used c.args.table.now c.args.primitives.now c.args.scope.now c.resolve_strategies.new.scope c.in-Use.name
    c.in-Use.parts.items c.in-Use.terms.items c.in_ok-parts-in-Use.parts.items c.in_ok-terms-in-Use.terms.items
    c.resolve_use.result c.args.strategy.now (c.form.ensures ∙ ap strategy_of c.in-Use.is)
    c.in_ok-parts-in-Use.ensures.scope
    (c.in_ok-parts-in-Use.ensures.resolved ∙ ap (λ ss. resolved_strategies c.args.table.now c.args.primitives.now
    c.args.scope.now (strategies_of ss)) c.deref-in-Use.ensures.value)
    (c.in_ok-terms-in-Use.ensures ∙ ap
    (λ ps. resolved_patterns c.resolve_strategies.new.scope.variables (patterns_of ps)) c.deref-in-Use-2.ensures.value)
    c.resolve_use.ensures
