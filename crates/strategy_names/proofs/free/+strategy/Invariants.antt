use Rattle.std.proofs.Common.{◌≡◌, ◌+◌, ◌*◌, drop}
use Rattle.strategy_syntax.specs.Syntax.{strategies_of}
use Rattle.strategy_syntax.specs.inside.StrategyDepth.{depth, depths}
use Rattle.strategy_names.specs.inside.Met.{met_in_strategies}
use Rattle.strategy_names.proofs.free.+strategy.Given as goal

abbrev pub decreases-meet_in_strategy : goal.decreases-meet_in_strategy
decreases-meet_in_strategy l = 2 * depth l.strategy.now

abbrev pub decreases-meet_in_strategies : goal.decreases-meet_in_strategies
decreases-meet_in_strategies l = 2 * depths (strategies_of l.strategies.now) + 1

-- the rest gives what the whole gave
abbrev pub invariant-meet_in_strategies-loop-strategy : goal.invariant-meet_in_strategies-loop-strategy
invariant-meet_in_strategies-loop-strategy l = record {
  same : met_in_strategies l.fn.hidden l.first l.found (strategies_of (drop l.strategy-index l.strategies))
      ≡ met_in_strategies l.fn.hidden l.first l.fn.found (strategies_of l.strategies);
  kept : l.hidden ≡ l.fn.hidden;
}
