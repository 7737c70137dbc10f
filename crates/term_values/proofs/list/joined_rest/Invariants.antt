use Rattle.std.proofs.Common.{◌≡◌, ◌≤◌, ◌++◌, drop, length}
use Rattle.term_core.specs.Tree.{children, list_term}
use Rattle.term_values.proofs.list.joined_rest.Given as goal

abbrev pub invariant-loop-at : goal.invariant-loop-at
invariant-loop-at l =
    (l.skipped ≤ l.at) × (l.at ≤ length l.front) × (l.rest ≡ list_term (drop l.at l.front ++ children l.list.after))

abbrev pub decreases-loop-at : goal.decreases-loop-at
decreases-loop-at l = l.at
