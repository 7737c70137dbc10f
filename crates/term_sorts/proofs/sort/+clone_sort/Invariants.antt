use Rattle.std.proofs.Common.{◌≡◌, take}
use Rattle.term_sorts.proofs.sort.+clone_sort.Given as goal

abbrev pub invariant-clone_sorts-loop-sort : goal.invariant-clone_sorts-loop-sort
invariant-clone_sorts-loop-sort l = l.made.items ≡ take l.sort-index l.sorts
