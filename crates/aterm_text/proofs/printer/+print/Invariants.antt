use Rattle.std.proofs.Common.{◌≡◌, ◌≤◌, vec_capacity, ◌++◌, ◌+◌, ◌*◌, drop}
use Rattle.term_core.specs.Tree.{of_list}
use Rattle.term_core.specs.Size.{height, heights}
use Rattle.term_core.specs.Terms.{AreTerms}
use Rattle.aterm_text.specs.Printed.{print_more}
use Rattle.aterm_text.specs.inside.Printing.{Extends}
use Rattle.aterm_text.proofs.printer.+print.Given as goal

abbrev pub decreases-print_term : goal.decreases-print_term
decreases-print_term l = 5 * height l.term.now + 1

abbrev pub decreases-print_bare : goal.decreases-print_bare
decreases-print_bare l = 5 * height l.term.now

abbrev pub decreases-print_bracketed : goal.decreases-print_bracketed
decreases-print_bracketed l = 5 * heights (of_list l.terms.now) + 4

abbrev pub decreases-print_between : goal.decreases-print_between
decreases-print_between l = 5 * heights (of_list l.terms.now) + 3

abbrev pub decreases-print_all : goal.decreases-print_all
decreases-print_all l = 5 * heights (of_list l.terms.now) + 2

-- what was printed, followed by what is yet to be printed, is the whole text
abbrev pub invariant-print_all-loop-term : goal.invariant-print_all-loop-term
invariant-print_all-loop-term l = record {
  text : l.initial.out.items ++ print_more (of_list l.rest)
      ≡ l.out.items ++ print_more (of_list (drop l.term-index l.rest));
  terms : AreTerms (of_list (drop l.term-index l.rest)) → AreTerms (of_list l.rest);
  grows : Extends l.initial.out.items l.out.items;
  room : vec_capacity l.initial.out ≤ vec_capacity l.out;
}
