use Rattle.std.proofs.Common.{◌≡◌, take}
use Rattle.prim_extended.proofs.constructors.copies.Given as goal

abbrev pub invariant-loop-term : goal.invariant-loop-term
invariant-loop-term l = l.made.items ≡ take l.term-index l.terms
