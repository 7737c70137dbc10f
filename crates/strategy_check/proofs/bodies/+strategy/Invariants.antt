use Rattle.std.proofs.Common.{◌≡◌, ◌+◌, ◌*◌, max, take}
use Rattle.strategy_syntax.specs.Syntax.{strategies_of}
use Rattle.strategy_syntax.specs.Resolved.{resolveds_of}
use Rattle.strategy_syntax.specs.inside.StrategyDepth.{depth, depths}
use Rattle.strategy_check.specs.Resolving.{resolved_strategies}
use Rattle.strategy_check.proofs.bodies.+strategy.Given as goal

abbrev pub decreases-resolve_form : goal.decreases-resolve_form
decreases-resolve_form g l = 8 * depth l.strategy.now

abbrev pub decreases-resolve_strategy : goal.decreases-resolve_strategy
decreases-resolve_strategy g l = 8 * depth l.strategy.now + 1

abbrev pub decreases-resolve_seq : goal.decreases-resolve_seq
decreases-resolve_seq g l = 8 * max (depth l.first.now) (depth l.second.now) + 4

abbrev pub decreases-resolve_guard : goal.decreases-resolve_guard
decreases-resolve_guard g l = 8 * max (depth l.test.now) (max (depth l.then.now) (depth l.other.now)) + 4

abbrev pub decreases-resolve_in_scope : goal.decreases-resolve_in_scope
decreases-resolve_in_scope g l = 8 * depth l.part.now + 4

abbrev pub decreases-resolve_rec : goal.decreases-resolve_rec
decreases-resolve_rec g l = 8 * depth l.part.now + 4

abbrev pub decreases-resolve_part : goal.decreases-resolve_part
decreases-resolve_part g l = 8 * depth l.strategy.now + 2

abbrev pub decreases-resolve_strategies : goal.decreases-resolve_strategies
decreases-resolve_strategies g l = 8 * depths (strategies_of l.strategies.now) + 3

abbrev pub invariant-resolve_strategies-loop-strategy : goal.invariant-resolve_strategies-loop-strategy
invariant-resolve_strategies-loop-strategy g l = record {
  made : resolveds_of l.resolved.items
      ≡ resolved_strategies l.table l.primitives l.fn.scope (strategies_of (take l.strategy-index l.strategies));
  kept : l.scope ≡ l.fn.scope;
}
