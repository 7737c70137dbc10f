use Rattle.std.proofs.Common.{◌≡◌, take}
use Rattle.term_core.proofs.term.+try_clone.Given as goal

abbrev pub invariant-clone_all-loop-term : goal.invariant-clone_all-loop-term
invariant-clone_all-loop-term l = l.all.items ≡ take l.term-index l.terms
