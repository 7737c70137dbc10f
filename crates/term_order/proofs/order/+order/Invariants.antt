use Rattle.std.proofs.Common.{◌≡◌, ◌+◌, ◌*◌, ◌≤◌, length}
use Rattle.term_core.specs.Tree.{of_list}
use Rattle.term_core.specs.Size.{size, sizes}
use Rattle.term_values.specs.Seen.{seen_tree}
use Rattle.term_order.specs.Order.{compared_all}
use Rattle.term_order.proofs.order.+order.Given as goal

abbrev pub decreases-compare : goal.decreases-compare
decreases-compare l = 2 * size (seen_tree l.term)

abbrev pub decreases-compare_all : goal.decreases-compare_all
decreases-compare_all l = 2 * sizes (of_list l.terms) + 1

-- those before were equal
abbrev pub invariant-compare_all-loop-term : goal.invariant-compare_all-loop-term
invariant-compare_all-loop-term l =
    (compared_all (of_list l.fn.terms) (of_list l.fn.others) ≡ compared_all (of_list l.left) (of_list l.right))
    × (sizes (of_list l.left) ≤ sizes (of_list l.fn.terms))

abbrev pub decreases-compare_all-loop-term : goal.decreases-compare_all-loop-term
decreases-compare_all-loop-term l = length l.left
