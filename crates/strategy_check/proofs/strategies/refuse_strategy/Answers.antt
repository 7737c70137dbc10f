use Rattle.std.proofs.Common.{[]}
use Rattle.strategy_check.specs.Faults.{strategy_faults}
use Rattle.strategy_check.proofs.FaultLemmas.{refused_none, refused_first}
use Rattle.strategy_check.proofs.strategies.refuse_strategy.Goals as goal

pub returns-clause-none : goal.returns-clause-none
returns-clause-none g c =
    refused_none c.into_first.result c.in_ok-faults.faults.items
    (strategy_faults c.args.table.now c.args.primitives.now [] c.args.strategy.now) c.in_ok-faults.ensures
    c.into_first.ensures.none

pub returns-clause-first : goal.returns-clause-first
returns-clause-first g c =
    refused_first c.into_first.result c.in_ok-faults.faults.items
    (strategy_faults c.args.table.now c.args.primitives.now [] c.args.strategy.now) c.in_ok-faults.ensures
    c.into_first.ensures.first
