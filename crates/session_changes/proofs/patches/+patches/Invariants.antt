use Rattle.std.proofs.Common.{◌≡◌, ◌≤◌, ◌+◌, ◌*◌, length, map, take, drop}
use Rattle.session_history.specs.Differences.{difference_line}
use Rattle.session_changes.specs.inside.Lined.{AddsLines}
use Rattle.session_changes.specs.inside.ReadPatches.{differences_of, items_weight}
use Rattle.session_changes.specs.declared.lines.CountedLines.{CountedLines}
use Rattle.session_changes.proofs.patches.+patches.Given as goal

abbrev pub decreases-add_next : goal.decreases-add_next
decreases-add_next l = 2 * items_weight l.reader.now + 2

abbrev pub decreases-add_kids : goal.decreases-add_kids
decreases-add_kids l = 2 * items_weight l.reader.now + 1

-- what was added, and then the lines of the other places, comes to all lines
abbrev pub invariant-add_kids-loop-k : goal.invariant-add_kids-loop-k
invariant-add_kids-loop-k l = record {
  within : l.at ≤ length l.children;
  path : l.path.items ≡ l.initial.path.items;
  reader : l.reader ≡ drop l._k l.initial.reader;
  lines : (c : CountedLines) → AddsLines (map (difference_line l.name)
      (differences_of l.initial.path.items l.at (drop l._k (take l.kids l.initial.reader)) (drop l.at l.children)))
      l.lines c
      → AddsLines (map (difference_line l.name)
      (differences_of l.initial.path.items 0 (take l.kids l.initial.reader) l.children)) l.initial.lines c;
}
