use Rattle.strategy_check.proofs.ResolvedPatternLemmas.{resolved_patterns-next}
use Rattle.strategy_check.proofs.resolved_patterns.+pattern.Goals as goal

pub resolve_patterns-loop-pattern-preserved : goal.resolve_patterns-loop-pattern-preserved
resolve_patterns-loop-pattern-preserved t c =
    resolved_patterns-next c.args.scope.now.variables c.args.patterns.now c.loop-pattern.resolved.items
    c.push.new.self.items c.in_ok-resolve_pattern.field-0
    c.loop-pattern.pattern-index c.pattern-item.result c.loop-pattern-test.true c.pattern-item.is
    c.loop-pattern.invariant c.in_ok-push.ensures.items c.in_ok-resolve_pattern.ensures
