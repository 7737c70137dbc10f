use Rattle.std.proofs.Common.{◌≡◌, ◌-◌, ◌^◌, min, take}
use Rattle.term_core.specs.Tree.{of_list}
use Rattle.term_core.specs.Size.{heights}
use Rattle.term_core.proofs.term.+height.Given as goal

abbrev pub invariant-greatest_height-loop-term : goal.invariant-greatest_height-loop-term
invariant-greatest_height-loop-term l = l.greatest ≡ min (heights (of_list (take l.term-index l.terms))) (2 ^ 64 - 1)
