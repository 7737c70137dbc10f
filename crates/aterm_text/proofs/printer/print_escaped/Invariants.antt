use Rattle.std.proofs.Common.{◌≡◌, ◌≤◌, vec_capacity, ◌++◌, length}
use Rattle.std.specs.List.{flat_map}
use Rattle.aterm_text.specs.Printed.{escaped}
use Rattle.aterm_text.specs.inside.Printing.{Extends}
use Rattle.aterm_text.proofs.printer.print_escaped.Given as goal

-- what was printed, followed by what is yet to be printed, is the whole text
abbrev pub invariant-loop-rest : goal.invariant-loop-rest
invariant-loop-rest l = record {
  text : l.initial.out.items ++ flat_map escaped l.bytes ≡ l.out.items ++ flat_map escaped l.rest;
  grows : Extends l.initial.out.items l.out.items;
  room : vec_capacity l.initial.out ≤ vec_capacity l.out;
}

abbrev pub decreases-loop-rest : goal.decreases-loop-rest
decreases-loop-rest l = length l.rest
