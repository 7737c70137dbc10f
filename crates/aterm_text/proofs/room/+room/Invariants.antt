use Rattle.std.proofs.Common.{◌≡◌, ◌+◌, ◌*◌, length, drop}
use Rattle.term_core.specs.Tree.{of_list}
use Rattle.term_core.specs.Size.{height, heights}
use Rattle.aterm_text.specs.Printed.{print_more}
use Rattle.aterm_text.proofs.room.+room.Given as goal

abbrev pub decreases-room_after : goal.decreases-room_after
decreases-room_after l = 5 * height l.term.now + 1

abbrev pub decreases-room_after_bare : goal.decreases-room_after_bare
decreases-room_after_bare l = 5 * height l.term.now

abbrev pub decreases-room_after_bracketed : goal.decreases-room_after_bracketed
decreases-room_after_bracketed l = 5 * heights (of_list l.terms.now) + 4

abbrev pub decreases-room_after_between : goal.decreases-room_after_between
decreases-room_after_between l = 5 * heights (of_list l.terms.now) + 3

abbrev pub decreases-room_after_all : goal.decreases-room_after_all
decreases-room_after_all l = 5 * heights (of_list l.terms.now) + 2

-- what is left, with all that follows the first term, is what was left after it, with what is still to be measured
abbrev pub invariant-room_after_all-loop-term : goal.invariant-room_after_all-loop-term
invariant-room_after_all-loop-term l = l.left + length (print_more (of_list l.rest))
    ≡ l.initial.left + length (print_more (of_list (drop l.term-index l.rest)))
