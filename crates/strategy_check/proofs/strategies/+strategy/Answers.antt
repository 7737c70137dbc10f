use Rattle.std.proofs.Common.{◌≡◌, refl, ap, ◌∙◌}
use Rattle.strategy_syntax.specs.Syntax.{strategies_of}
use Rattle.strategy_check.specs.Faults.{strategy_faults, faults_of_strategies}
use Rattle.strategy_check.specs.inside.FaultLists.{with_faults}
use Rattle.strategy_check.proofs.FaultLemmas.{item_added, all_added}
use Rattle.strategy_check.proofs.strategies.+strategy.Goals as goal

pub check_strategies-loop-strategy-preserved : goal.check_strategies-loop-strategy-preserved
check_strategies-loop-strategy-preserved g t c =
    let T = c.args.table.now in
    let P = c.args.primitives.now in
    let names = c.args.names.now in
    let added : c.check_strategy.new.faults
    ≡ with_faults c.loop-strategy.faults (strategy_faults T P names c.strategy-item.result) =
    c.in_ok-check_strategy.ensures.faults
    ∙ ap (λ bs. with_faults c.loop-strategy.faults (strategy_faults T P bs c.strategy-item.result))
    c.loop-strategy.invariant.names in
    record {
      faults = item_added (λ ss. faults_of_strategies T P names (strategies_of ss)) (strategy_faults T P names)
          (λ s ss. refl)
          c.args.strategies.now c.loop-strategy.strategy-index c.loop-strategy.faults
          (with_faults c.args.faults.now (faults_of_strategies T P names (strategies_of c.args.strategies.now)))
          c.strategy-item.result c.check_strategy.new.faults c.loop-strategy-test.true c.strategy-item.is
          c.loop-strategy.invariant.faults added;
      names = c.in_ok-check_strategy.ensures.names ∙ c.loop-strategy.invariant.names;
    }

pub check_strategies-returns-clause-faults : goal.check_strategies-returns-clause-faults
check_strategies-returns-clause-faults g t c =
    let T = c.args.table.now in
    let P = c.args.primitives.now in
    let names = c.args.names.now in
    all_added (λ ss. faults_of_strategies T P names (strategies_of ss)) refl
    c.args.strategies.now c.loop-strategy.strategy-index c.loop-strategy.faults
    (with_faults c.args.faults.now (faults_of_strategies T P names (strategies_of c.args.strategies.now)))
    c.loop-strategy-test.false c.loop-strategy.invariant.faults
