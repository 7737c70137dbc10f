use Rattle.std.proofs.Common.{◌≡◌, ◌+◌, ◌*◌, drop}
use Rattle.term_core.specs.Tree.{of_list}
use Rattle.term_core.specs.Size.{height, heights}
use Rattle.prim_extended.specs.Greatest.{greatest_of_all}
use Rattle.prim_extended.proofs.greatest.+greatest.Given as goal

abbrev pub decreases-greatest : goal.decreases-greatest
decreases-greatest l = 2 * height l.term.now + 1

abbrev pub decreases-greatest_of : goal.decreases-greatest_of
decreases-greatest_of l = 2 * heights (of_list l.terms.now) + 2

-- the greatest so far, and of the terms that are left
abbrev pub invariant-greatest_of-loop-term : goal.invariant-greatest_of-loop-term
invariant-greatest_of-loop-term l = greatest_of_all l.fn.beginning l.fn.least (of_list l.terms)
    ≡ greatest_of_all l.fn.beginning l.found (of_list (drop l.term-index l.terms))
