use Rattle.std.proofs.Common.{◌≡◌, ◌+◌, ◌*◌, drop}
use Rattle.strategy_syntax.specs.Syntax.{strategies_of}
use Rattle.strategy_syntax.specs.inside.StrategyDepth.{depth, depths}
use Rattle.strategy_check.specs.Faults.{faults_of_strategies}
use Rattle.strategy_check.specs.inside.FaultLists.{with_faults}
use Rattle.strategy_check.proofs.strategies.+strategy.Given as goal

abbrev pub decreases-check_strategy : goal.decreases-check_strategy
decreases-check_strategy g l = 2 * depth l.strategy.now

abbrev pub decreases-check_strategies : goal.decreases-check_strategies
decreases-check_strategies g l = 2 * depths (strategies_of l.strategies.now) + 1

-- the faults of the rest make those of the whole, and the names are the same as before
abbrev pub invariant-check_strategies-loop-strategy : goal.invariant-check_strategies-loop-strategy
invariant-check_strategies-loop-strategy g l = record {
  faults : with_faults l.faults
      (faults_of_strategies l.table l.primitives l.fn.names (strategies_of (drop l.strategy-index l.strategies)))
      ≡ with_faults l.fn.faults (faults_of_strategies l.table l.primitives l.fn.names (strategies_of l.strategies));
  names : l.names ≡ l.fn.names;
}
