use Rattle.std.proofs.Common.{◌≡◌, ◌++◌, ◌+◌, ◌*◌, length, take, drop, reverse}
use Rattle.term_paths.specs.Edits.{prefixed}
use Rattle.term_changes.specs.Change.{places_from}
use Rattle.term_changes.specs.Items.{items_changes}
use Rattle.term_changes.specs.Putting.{entries_at}
use Rattle.term_changes.specs.inside.Marks.{read}
use Rattle.term_changes.specs.inside.Walked.{Listed}
use Rattle.term_changes.proofs.listing.+list.Given as goal

abbrev pub decreases-list_item : goal.decreases-list_item
decreases-list_item l = 3 * length l.marks.now

abbrev pub decreases-list_kid : goal.decreases-list_kid
decreases-list_kid l = 3 * length l.marks.now + 1

abbrev pub decreases-list_kids : goal.decreases-list_kids
decreases-list_kids l = 3 * length l.marks.now + 2

-- What was added, and then what is left, comes to what there is to add in all.
abbrev pub invariant-list_kids-loop-k : goal.invariant-list_kids-loop-k
invariant-list_kids-loop-k l = record {
  path : l.path.items ≡ l.initial.path.items;
  listed : Listed l.marks l.initial.terms.items l.terms.items l.left
      (take l._k (read (reverse l.marks) (reverse l.initial.terms.items)));
  plan : l.plan ++ entries_at l.slot (prefixed l.initial.path.items (places_from l.at
      (items_changes (drop l._k (take l.kids (read (reverse l.marks) (reverse l.initial.terms.items)))))))
      ≡ l.initial.plan ++ entries_at l.slot (prefixed l.initial.path.items
      (places_from 0 (items_changes (take l.kids (read (reverse l.marks) (reverse l.initial.terms.items))))));
}
