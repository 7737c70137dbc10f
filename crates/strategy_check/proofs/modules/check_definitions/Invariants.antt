use Rattle.std.proofs.Common.{◌≡◌, drop}
use Rattle.std.specs.Prelude.{flat_map}
use Rattle.strategy_check.specs.Faults.{definition_faults}
use Rattle.strategy_check.specs.inside.FaultLists.{with_faults}
use Rattle.strategy_check.proofs.modules.check_definitions.Given as goal

-- the faults of the rest make those of the whole
abbrev pub invariant-loop-index : goal.invariant-loop-index
invariant-loop-index g l =
    with_faults l.faults (flat_map (definition_faults l.table l.primitives l.earlier.keys) (drop l.index l.definitions))
    ≡ with_faults l.fn.faults (flat_map (definition_faults l.table l.primitives l.earlier.keys) l.definitions)
