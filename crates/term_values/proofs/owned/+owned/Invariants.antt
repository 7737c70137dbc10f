use Rattle.std.proofs.Common.{◌≡◌, ◌+◌, ◌*◌, ◌++◌, length}
use Rattle.term_core.specs.Tree.{of_list}
use Rattle.term_core.specs.Size.{size, sizes}
use Rattle.term_values.specs.Seen.{seen_tree}
use Rattle.term_values.proofs.owned.+owned.Given as goal

abbrev pub decreases-owned : goal.decreases-owned
decreases-owned l = 2 * size (seen_tree l.seen)

abbrev pub decreases-all_owned : goal.decreases-all_owned
decreases-all_owned l = 2 * sizes (of_list l.elements) + 1

abbrev pub invariant-all_owned-loop-seen : goal.invariant-all_owned-loop-seen
invariant-all_owned-loop-seen l = l.all.items ++ l.left ≡ l.fn.elements

abbrev pub decreases-all_owned-loop-seen : goal.decreases-all_owned-loop-seen
decreases-all_owned-loop-seen l = length l.left
