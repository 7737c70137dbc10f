use Rattle.std.proofs.Common.{◌≡◌, ◌+◌, ◌*◌, map, drop}
use Rattle.term_core.specs.Tree.{of_list}
use Rattle.term_core.specs.Size.{height, heights}
use Rattle.session_history.specs.Differences.{differences_from, difference_line}
use Rattle.session_changes.specs.inside.Lined.{AddsLines}
use Rattle.session_changes.specs.declared.lines.CountedLines.{CountedLines}
use Rattle.session_changes.proofs.differences.+differences.Given as goal

abbrev pub decreases-add_differences : goal.decreases-add_differences
decreases-add_differences l = 2 * height l.old.now + 1

abbrev pub decreases-add_children : goal.decreases-add_children
decreases-add_children l = 2 * heights (of_list l.old.now) + 2

-- what was added, and then the lines of the other children, comes to all lines
abbrev pub invariant-add_children-loop-i : goal.invariant-add_children-loop-i
invariant-add_children-loop-i l = record {
  path : l.path.items ≡ l.initial.path.items;
  lines : (c : CountedLines) → AddsLines (map (difference_line l.name)
      (differences_from l.initial.path.items l.i (of_list (drop l.i l.old)) (of_list (drop l.i l.new)))) l.lines c
      → AddsLines (map (difference_line l.name)
      (differences_from l.initial.path.items 0 (of_list l.old) (of_list l.new))) l.initial.lines c;
}
