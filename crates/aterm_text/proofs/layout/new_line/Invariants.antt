use Rattle.std.proofs.Common.{◌≡◌, ◌≤◌, vec_capacity, ◌++◌, replicate}
use Rattle.aterm_text.specs.inside.Printing.{Extends}
use Rattle.aterm_text.proofs.layout.new_line.Given as goal

-- what was appended, followed by the blanks that are left, is the whole line
abbrev pub invariant-loop-left : goal.invariant-loop-left
invariant-loop-left l = record {
  text : l.initial.out.items ++ replicate l.column 32 ≡ l.out.items ++ replicate l.left 32;
  grows : Extends l.initial.out.items l.out.items;
  room : vec_capacity l.initial.out ≤ vec_capacity l.out;
}

abbrev pub decreases-loop-left : goal.decreases-loop-left
decreases-loop-left l = l.left
