use Rattle.std.proofs.Common.{◌↔◌, ◌+◌, ◌*◌, List, drop}
use Rattle.term_core.specs.Tree.{of_list}
use Rattle.term_core.specs.Size.{height, heights}
use Rattle.term_sorts.specs.Sorts.{Sort, AllConform, HaveSorts}
use Rattle.term_sorts.specs.Signatures.{wanted_sort}
use Rattle.term_sorts.specs.inside.Tables.{AreNumbers}
use Rattle.term_sorts.proofs.signature.Signature.+conforms.Given as goal

abbrev pub decreases-conforms : goal.decreases-conforms
decreases-conforms l = 4 * height l.term.now + 1

abbrev pub decreases-list_conforms : goal.decreases-list_conforms
decreases-list_conforms l = 4 * heights (of_list l.elements.now) + 4

abbrev pub decreases-tuple_conforms : goal.decreases-tuple_conforms
decreases-tuple_conforms l = 4 * heights (of_list l.terms.now) + 4

abbrev pub decreases-application_conforms : goal.decreases-application_conforms
decreases-application_conforms l = 4 * heights (of_list l.arguments.now) + 4

abbrev pub decreases-all_conform : goal.decreases-all_conform
decreases-all_conform l = 4 * heights (of_list l.terms.now) + 3

abbrev pub decreases-each_conforms : goal.decreases-each_conforms
decreases-each_conforms l = 4 * heights (of_list l.terms.now) + 3

-- the terms before conform
abbrev pub invariant-all_conform-loop-term : goal.invariant-all_conform-loop-term
invariant-all_conform-loop-term l =
    AllConform l.self.declared (wanted_sort l.self.sorts l.wanted) (of_list l.terms)
    ↔ AllConform l.self.declared (wanted_sort l.self.sorts l.wanted) (of_list (drop l.term-index l.terms))

abbrev pub invariant-each_conforms-loop-i : goal.invariant-each_conforms-loop-i
invariant-each_conforms-loop-i l =
    (ss : List Sort) → AreNumbers l.self.sorts l.numbers ss
    → HaveSorts l.self.declared ss (of_list l.terms) ↔ HaveSorts l.self.declared (drop l.i ss)
    (of_list (drop l.i l.terms))
