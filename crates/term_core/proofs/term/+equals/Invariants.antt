use Rattle.std.proofs.Common.{◌≡◌, take, length}
use Rattle.term_core.proofs.term.+equals.Given as goal

abbrev pub invariant-all_equal-loop-term : goal.invariant-all_equal-loop-term
invariant-all_equal-loop-term l = take (length l.yielded) l.terms ≡ take (length l.yielded) l.others
