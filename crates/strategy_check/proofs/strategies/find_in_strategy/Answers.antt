use Rattle.std.proofs.Common.{[], ◌∙◌}
use Rattle.strategy_check.specs.Faults.{strategy_faults}
use Rattle.strategy_check.specs.inside.FaultLists.{with_faults}
use Rattle.strategy_check.proofs.FaultLemmas.{items_taken}
use Rattle.strategy_check.proofs.strategies.find_in_strategy.Goals as goal

pub returns : goal.returns
returns g c =
    let T = c.args.table.now in
    let P = c.args.primitives.now in
    let s = c.args.strategy.now in
    items_taken c.check_strategy.new.faults c.args.most (strategy_faults T P [] s)
    (c.in_ok-check_strategy.ensures.faults
    ∙ (λ i. with_faults (c.new-faults.ensures i) (strategy_faults T P (c.new-names.ensures i) s)))
