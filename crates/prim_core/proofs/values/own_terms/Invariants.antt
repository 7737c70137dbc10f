use Rattle.std.proofs.Common.{◌≡◌, take}
use Rattle.prim_core.proofs.values.own_terms.Given as goal

abbrev pub invariant-loop-value : goal.invariant-loop-value
invariant-loop-value l = l.terms.items ≡ take l.value-index l.values
