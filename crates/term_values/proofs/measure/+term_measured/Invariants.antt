use Rattle.std.proofs.Common.{◌≡◌, ◌+◌, ◌*◌, take}
use Rattle.term_core.specs.Tree.{of_list}
use Rattle.term_core.specs.Size.{size, sizes}
use Rattle.term_values.specs.inside.Bounded.{MeasuresAll}
use Rattle.term_values.proofs.measure.+term_measured.Given as goal

abbrev pub decreases-term_measured : goal.decreases-term_measured
decreases-term_measured l = 2 * size l.term.now

abbrev pub decreases-terms_measured : goal.decreases-terms_measured
decreases-terms_measured l = 2 * sizes (of_list l.terms.now) + 1

abbrev pub invariant-terms_measured-loop-i : goal.invariant-terms_measured-loop-i
invariant-terms_measured-loop-i l =
    MeasuresAll (take l.i l.terms) l.all × (l.left + sizes (of_list (take l.i l.terms)) ≡ l.initial.left)
