use Rattle.std.proofs.Common.{◌≡◌, ◌+◌, ◌*◌, drop}
use Rattle.strategy_syntax.specs.Syntax.{strategies_of}
use Rattle.strategy_syntax.specs.inside.StrategyDepth.{depth, depths}
use Rattle.strategy_check.specs.inside.Mentioned.{mentioned_in_strategies}
use Rattle.strategy_check.proofs.mentions.+strategy.Given as goal

abbrev pub decreases-mention_in_strategy : goal.decreases-mention_in_strategy
decreases-mention_in_strategy l = 2 * depth l.strategy.now

abbrev pub decreases-mention_in_strategies : goal.decreases-mention_in_strategies
decreases-mention_in_strategies l = 2 * depths (strategies_of l.strategies.now) + 1

-- the rest gives what the whole gave
abbrev pub invariant-mention_in_strategies-loop-strategy : goal.invariant-mention_in_strategies-loop-strategy
invariant-mention_in_strategies-loop-strategy l = record {
  same : mentioned_in_strategies l.fn.names l.mentioned (strategies_of (drop l.strategy-index l.strategies))
      ≡ mentioned_in_strategies l.fn.names l.fn.mentioned (strategies_of l.strategies);
  kept : l.names ≡ l.fn.names;
}
