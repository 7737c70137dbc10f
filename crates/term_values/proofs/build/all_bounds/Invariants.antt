use Rattle.std.proofs.Common.{take}
use Rattle.term_values.specs.inside.Bounded.{AllBounded}
use Rattle.term_values.proofs.build.all_bounds.Given as goal

abbrev pub invariant-loop-value : goal.invariant-loop-value
invariant-loop-value l = AllBounded (take l.value-index l.values) l.all
