use Rattle.std.proofs.Common.{◌≡◌, ◌≤◌, ◌+◌, take}
use Rattle.term_core.specs.Tree.{of_list}
use Rattle.term_core.specs.Size.{heights, sizes}
use Rattle.term_core.proofs.term.+room_left.Given as goal

-- what is left for the terms so far of the size at the start
abbrev pub invariant-room_left_by_all-loop-term : goal.invariant-room_left_by_all-loop-term
invariant-room_left_by_all-loop-term l =
    (heights (of_list (take l.term-index l.terms)) ≤ l.height)
    × (l.size + sizes (of_list (take l.term-index l.terms)) ≡ l.initial.size)
