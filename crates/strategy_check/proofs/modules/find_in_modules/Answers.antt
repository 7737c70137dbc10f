use Rattle.std.proofs.Common.{[], ◌∙◌}
use Rattle.strategy_check.specs.Faults.{faults_from}
use Rattle.strategy_check.specs.inside.FaultLists.{with_faults}
use Rattle.strategy_check.proofs.FaultLemmas.{items_taken}
use Rattle.strategy_check.proofs.modules.find_in_modules.Goals as goal

pub returns : goal.returns
returns g c =
    let T = c.args.table.now in
    let P = c.args.primitives.now in
    let ms = c.args.modules.now in
    items_taken c.check_modules.new.faults c.args.most (faults_from T P [] ms)
    (c.in_ok-check_modules.ensures.faults
    ∙ (λ i. with_faults (c.new-faults.ensures i) (faults_from T P (c.new-earlier.ensures.empty i) ms)))
