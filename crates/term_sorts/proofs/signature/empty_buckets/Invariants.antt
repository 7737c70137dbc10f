use Rattle.std.proofs.Common.{◌≡◌, length}
use Rattle.term_sorts.proofs.signature.empty_buckets.Given as goal

abbrev pub invariant-loop-i : goal.invariant-loop-i
invariant-loop-i l = length l.made.items ≡ l._i
