use Rattle.std.proofs.Common.{◌≡◌, ◌≤◌, vec_capacity, ◌++◌, ◌+◌, ◌*◌, drop}
use Rattle.term_core.specs.Tree.{of_list}
use Rattle.term_core.specs.Size.{height, heights}
use Rattle.term_core.specs.Terms.{AreTerms}
use Rattle.aterm_text.specs.Layout.{pretty_more}
use Rattle.aterm_text.specs.inside.Printing.{Extends}
use Rattle.aterm_text.proofs.layout.+pretty.Given as goal

abbrev pub decreases-pretty_term : goal.decreases-pretty_term
decreases-pretty_term l = 5 * height l.term.now + 1

abbrev pub decreases-spread_bare : goal.decreases-spread_bare
decreases-spread_bare l = 5 * height l.term.now

abbrev pub decreases-spread_bracketed : goal.decreases-spread_bracketed
decreases-spread_bracketed l = 5 * heights (of_list l.terms.now) + 4

abbrev pub decreases-spread_between : goal.decreases-spread_between
decreases-spread_between l = 5 * heights (of_list l.terms.now) + 3

abbrev pub decreases-pretty_all : goal.decreases-pretty_all
decreases-pretty_all l = 5 * heights (of_list l.terms.now) + 2

-- what was printed, followed by what is yet to be printed, is the whole text
abbrev pub invariant-pretty_all-loop-term : goal.invariant-pretty_all-loop-term
invariant-pretty_all-loop-term l = record {
  text : l.initial.out.items ++ pretty_more l.column (of_list l.rest)
      ≡ l.out.items ++ pretty_more l.column (of_list (drop l.term-index l.rest));
  terms : AreTerms (of_list (drop l.term-index l.rest)) → AreTerms (of_list l.rest);
  grows : Extends l.initial.out.items l.out.items;
  room : vec_capacity l.initial.out ≤ vec_capacity l.out;
}
