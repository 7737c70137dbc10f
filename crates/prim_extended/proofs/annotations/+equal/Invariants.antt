use Rattle.std.proofs.Common.{◌≡◌, ◌+◌, ◌*◌, drop}
use Rattle.term_core.specs.Tree.{of_list}
use Rattle.term_core.specs.Size.{height, heights}
use Rattle.strategy_meaning.specs.Same.{same_trees}
use Rattle.prim_extended.specs.Annotations.{all_stripped}
use Rattle.prim_extended.proofs.annotations.+equal.Given as goal

abbrev pub decreases-are_equal : goal.decreases-are_equal
decreases-are_equal l = 2 * height l.term.now + 1

abbrev pub decreases-all_equal : goal.decreases-all_equal
decreases-all_equal l = 2 * heights (of_list l.terms.now) + 2

-- the terms before were equal
abbrev pub invariant-all_equal-loop-i : goal.invariant-all_equal-loop-i
invariant-all_equal-loop-i l =
    same_trees (all_stripped (of_list l.initial.terms)) (all_stripped (of_list l.initial.others))
    ≡ same_trees (all_stripped (of_list (drop l.i l.terms))) (all_stripped (of_list (drop l.i l.others)))
