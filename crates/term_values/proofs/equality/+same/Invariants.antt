use Rattle.std.proofs.Common.{◌≡◌, ◌+◌, ◌*◌, ◌≤◌, ◌↔◌, length}
use Rattle.term_core.specs.Tree.{of_list}
use Rattle.term_core.specs.Size.{size, sizes}
use Rattle.term_values.specs.Seen.{seen_tree}
use Rattle.term_values.proofs.equality.+same.Given as goal

abbrev pub decreases-same : goal.decreases-same
decreases-same l = 2 * size (seen_tree l.a)

abbrev pub decreases-all_same : goal.decreases-all_same
decreases-all_same l = 2 * sizes (of_list l.these) + 1

abbrev pub invariant-all_same-loop-a : goal.invariant-all_same-loop-a
invariant-all_same-loop-a l =
    ((l.left ≡ l.right) ↔ (l.fn.these ≡ l.fn.those))
    × (sizes (of_list l.left) ≤ sizes (of_list l.fn.these))

abbrev pub decreases-all_same-loop-a : goal.decreases-all_same-loop-a
decreases-all_same-loop-a l = length l.left
