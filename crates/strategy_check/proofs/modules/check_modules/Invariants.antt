use Rattle.std.proofs.Common.{◌≡◌, drop}
use Rattle.strategy_syntax.specs.Lists.{with_new}
use Rattle.strategy_check.specs.Tables.{same_key, keys_of, definitions_of}
use Rattle.strategy_check.specs.Faults.{faults_from}
use Rattle.strategy_check.specs.inside.FaultLists.{with_faults}
use Rattle.strategy_check.proofs.modules.check_modules.Given as goal

-- the faults of the rest make those of the whole, and so do the keys
abbrev pub invariant-loop-index : goal.invariant-loop-index
invariant-loop-index g l = record {
  faults : with_faults l.faults (faults_from l.table l.primitives l.earlier.keys (drop l.index l.modules))
      ≡ with_faults l.fn.faults (faults_from l.table l.primitives l.fn.earlier.keys l.modules);
  earlier : with_new same_key l.earlier.keys (keys_of (definitions_of (drop l.index l.modules)))
      ≡ with_new same_key l.fn.earlier.keys (keys_of (definitions_of l.modules));
}
