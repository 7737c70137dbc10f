use Rattle.std.proofs.Common.{sym, ◌∙◌}
use Rattle.std.proofs.lemmas.Bool.{eqb-true}
use Rattle.strategy_check.specs.Faults.{definition_faults}
use Rattle.strategy_check.proofs.FaultLemmas.{with_full}
use Rattle.strategy_check.proofs.modules.check_definition.Goals as goal

pub returns-then-is_full : goal.returns-then-is_full
returns-then-is_full g c =
    with_full c.args.faults.now
    (definition_faults c.args.table.now c.args.primitives.now c.args.earlier.now.keys c.args.definition.now)
    (eqb-true c.args.faults.now.room 0 (sym c.is_full.ensures ∙ c.if-is_full.true))
