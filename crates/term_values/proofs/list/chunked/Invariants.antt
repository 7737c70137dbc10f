use Rattle.std.proofs.Common.{◌≡◌, ◌≤◌, ◌++◌, take, drop, length}
use Rattle.term_core.specs.Tree.{children, list_term}
use Rattle.term_values.proofs.list.chunked.Given as goal

abbrev pub invariant-loop-alloc : goal.invariant-loop-alloc
invariant-loop-alloc l =
    (l.skipped ≤ length l.left.items) × (length l.left.items ≤ length l.initial.left.items)
    × (l.left.items ≡ take (length l.left.items) l.initial.left.items)
    × (l.list ≡ list_term (drop (length l.left.items) l.initial.left.items ++ children l.initial.list))

abbrev pub decreases-loop-alloc : goal.decreases-loop-alloc
decreases-loop-alloc l = length l.left.items
