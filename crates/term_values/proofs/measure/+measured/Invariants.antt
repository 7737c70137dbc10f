use Rattle.std.proofs.Common.{◌≡◌, ◌+◌, ◌*◌, ◌++◌, length, List}
use Rattle.term_core.specs.Tree.{Tree, of_list}
use Rattle.term_core.specs.Size.{size, sizes}
use Rattle.term_values.specs.inside.Bounded.{MeasuresAll}
use Rattle.term_values.specs.Seen.{seen_tree}
use Rattle.term_values.proofs.measure.+measured.Given as goal

abbrev pub decreases-measured_within : goal.decreases-measured_within
decreases-measured_within l = 2 * size (seen_tree l.seen)

abbrev pub decreases-all_measured : goal.decreases-all_measured
decreases-all_measured l = 2 * sizes (of_list l.elements) + 1

-- what was visited, and the rest
abbrev pub invariant-all_measured-loop-seen : goal.invariant-all_measured-loop-seen
invariant-all_measured-loop-seen l =
    (us : List Tree) × (us ++ l.rest ≡ l.fn.elements) × MeasuresAll us l.all
    × (l.left + sizes (of_list us) ≡ l.initial.left)

abbrev pub decreases-all_measured-loop-seen : goal.decreases-all_measured-loop-seen
decreases-all_measured-loop-seen l = length l.rest
