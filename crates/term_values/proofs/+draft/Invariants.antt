use Rattle.std.proofs.Common.{◌≡◌, ◌≤◌, ◌+◌, ◌-◌, ◌*◌, ◌++◌, length, drop, map}
use Rattle.term_core.specs.Tree.{of_list}
use Rattle.term_core.specs.Size.{height, heights}
use Rattle.term_changes.specs.Standing.{after, standing_tree, standing_changes}
use Rattle.term_changes.specs.Items.{first_item}
use Rattle.term_changes.specs.inside.Trimmed.{items_of}
use Rattle.term_values.proofs.PlaceLemmas.{AllThere}
use Rattle.term_values.proofs.+draft.Given as goal

abbrev pub decreases-part::Changed::draft : goal.decreases-part::Changed::draft
decreases-part::Changed::draft l = 3 * height (after l.self.now)

abbrev pub decreases-part::Part::draft : goal.decreases-part::Part::draft
decreases-part::Part::draft l = 3 * height (standing_tree l.self.now) + 1

abbrev pub decreases-patches::draft_children : goal.decreases-patches::draft_children
decreases-patches::draft_children l = 3 * heights (of_list (map standing_tree l.parts.now)) + 2

abbrev pub invariant-patches::draft_children-loop-i : goal.invariant-patches::draft_children-loop-i
invariant-patches::draft_children-loop-i l = record {
  within : l.i ≤ length l.parts;
  few : l.items ≤ length l.parts - l.i;
  near : l.skipped ≤ length l.parts - l.i;
  draft : l.draft ≡ items_of (standing_changes (drop l.i l.parts)) ++ l.initial.draft;
  count : l.items ≡ length (items_of (standing_changes (drop l.i l.parts)));
  gap : l.skipped ≡ (first_item (items_of (standing_changes (drop l.i l.parts)))).0;
  there : AllThere (drop l.i l.parts);
}

abbrev pub decreases-patches::draft_children-loop-i : goal.decreases-patches::draft_children-loop-i
decreases-patches::draft_children-loop-i l = l.i
