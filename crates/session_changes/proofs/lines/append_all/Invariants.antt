use Rattle.std.proofs.Common.{◌≡◌, ◌≤◌, ◌++◌, drop}
use Rattle.std.specs.Prelude.{vec_capacity}
use Rattle.term_core.specs.Tree.{of_list}
use Rattle.aterm_text.specs.Printed.{print_more}
use Rattle.aterm_text.specs.inside.Printing.{Extends}
use Rattle.session_changes.proofs.lines.append_all.Given as goal

-- what was printed, followed by what is yet to be printed, is the whole text
abbrev pub invariant-loop-term : goal.invariant-loop-term
invariant-loop-term l = record {
  text : l.initial.out.items ++ print_more (of_list l.rest)
      ≡ l.out.items ++ print_more (of_list (drop l.term-index l.rest));
  grows : Extends l.initial.out.items l.out.items;
  room : vec_capacity l.initial.out ≤ vec_capacity l.out;
}
