use Rattle.std.proofs.Common.{◌≡◌, ◌-◌, ◌^◌, min, take}
use Rattle.term_core.specs.Tree.{of_list}
use Rattle.term_core.specs.Size.{sizes}
use Rattle.term_core.proofs.term.+size.Given as goal

abbrev pub invariant-total_size-loop-term : goal.invariant-total_size-loop-term
invariant-total_size-loop-term l = l.total ≡ min (sizes (of_list (take l.term-index l.terms))) (2 ^ 64 - 1)
