use Rattle.std.proofs.Common.{◌≡◌, take, length}
use Rattle.term_sorts.proofs.sort.+same_sort.Given as goal

abbrev pub invariant-same_sorts-loop-sort : goal.invariant-same_sorts-loop-sort
invariant-same_sorts-loop-sort l = take (length l.yielded) l.sorts ≡ take (length l.yielded) l.others
