use Rattle.std.proofs.Common.{◌≡◌, drop}
use Rattle.term_core.specs.Tree.{same_name}
use Rattle.strategy_syntax.specs.Lists.{with_new}
use Rattle.strategy_check.specs.inside.FaultLists.{with_faults, repeated_faults}
use Rattle.strategy_check.proofs.headers.check_distinct.Given as goal

-- the faults of the rest make those of the whole, and so do the names
abbrev pub invariant-loop-index : goal.invariant-loop-index
invariant-loop-index l = record {
  faults : with_faults l.faults (repeated_faults l.seen.keys (drop l.index l.names))
      ≡ with_faults l.fn.faults (repeated_faults l.fn.seen.keys l.names);
  seen : with_new same_name l.seen.keys (drop l.index l.names) ≡ with_new same_name l.fn.seen.keys l.names;
}
