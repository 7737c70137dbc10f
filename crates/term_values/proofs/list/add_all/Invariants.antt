use Rattle.std.proofs.Common.{◌≡◌, ◌++◌, take}
use Rattle.term_values.proofs.list.add_all.Given as goal

abbrev pub invariant-loop-value : goal.invariant-loop-value
invariant-loop-value l = l.all.items ≡ l.initial.all.items ++ take l.value-index l.values
