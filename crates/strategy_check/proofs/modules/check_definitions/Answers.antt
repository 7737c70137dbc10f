use Rattle.std.proofs.Common.{refl, ap, ◌∙◌}
use Rattle.std.specs.Prelude.{flat_map}
use Rattle.strategy_check.specs.Faults.{definition_faults}
use Rattle.strategy_check.specs.inside.FaultLists.{with_faults}
use Rattle.strategy_check.proofs.FaultLemmas.{item_added, all_added}
use Rattle.strategy_check.proofs.modules.check_definitions.Goals as goal

pub loop-index-preserved : goal.loop-index-preserved
loop-index-preserved g c =
    let one = definition_faults c.args.table.now c.args.primitives.now c.args.earlier.now.keys in
    let ds = c.args.definitions.now in
    let d = c.index-definitions-index.result in
    item_added (flat_map one) one (λ d ds. refl) ds c.loop-index.index c.loop-index.faults
    (with_faults c.args.faults.now (flat_map one ds)) d c.check_definition.new.faults
    c.loop-index-test.true c.index-definitions-index.is c.loop-index.invariant
    (c.in_ok-check_definition.ensures ∙ ap (λ m. with_faults m (one d)) c.enter.ensures)

pub returns : goal.returns
returns g c =
    let one = definition_faults c.args.table.now c.args.primitives.now c.args.earlier.now.keys in
    all_added (flat_map one) refl c.args.definitions.now c.loop-index.index c.loop-index.faults
    (with_faults c.args.faults.now (flat_map one c.args.definitions.now))
    c.loop-index-test.false c.loop-index.invariant
