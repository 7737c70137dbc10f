use Rattle.std.proofs.Common.{◌≡◌, ◌+◌, ◌*◌, take}
use Rattle.term_core.specs.Tree.{of_list}
use Rattle.term_core.specs.Size.{height, heights}
use Rattle.term_values.proofs.owned.+copied.Given as goal

abbrev pub decreases-copied : goal.decreases-copied
decreases-copied l = 2 * height l.term.now

abbrev pub decreases-all_copied : goal.decreases-all_copied
decreases-all_copied l = 2 * heights (of_list l.terms.now) + 1

abbrev pub invariant-all_copied-loop-term : goal.invariant-all_copied-loop-term
invariant-all_copied-loop-term l = l.all.items ≡ take l.term-index l.terms
