use Rattle.std.proofs.Common.{◌≡◌, ◌+◌, ◌*◌, take, length}
use Rattle.strategy_syntax.specs.Syntax.{strategies_of}
use Rattle.strategy_syntax.specs.inside.StrategyDepth.{depth, depths}
use Rattle.strategy_syntax.proofs.strategy.+same_strategy.Given as goal

abbrev pub decreases-Strategy::equals : goal.decreases-Strategy::equals
decreases-Strategy::equals l = 2 * depth l.self.now

abbrev pub decreases-same_strategies : goal.decreases-same_strategies
decreases-same_strategies l = 2 * depths (strategies_of l.strategies.now) + 1

abbrev pub invariant-same_strategies-loop-strategy : goal.invariant-same_strategies-loop-strategy
invariant-same_strategies-loop-strategy l = take (length l.yielded) l.strategies ≡ take (length l.yielded) l.others
