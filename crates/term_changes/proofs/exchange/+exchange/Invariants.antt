use Rattle.std.proofs.Common.{◌≡◌, ◌≤◌, ◌++◌, ◌+◌, ◌*◌, List, length, take, drop, reverse}
use Rattle.term_changes.specs.Change.{changed_all}
use Rattle.term_changes.specs.Items.{Item, items_changes}
use Rattle.term_changes.specs.inside.ItemCodes.{taken_items}
use Rattle.term_changes.specs.inside.Marks.{read}
use Rattle.term_changes.specs.inside.Walked.{Walked}
use Rattle.term_changes.proofs.exchange.+exchange.Given as goal

abbrev pub decreases-exchange_item : goal.decreases-exchange_item
decreases-exchange_item l = 3 * length l.marks.now

abbrev pub decreases-pass_item : goal.decreases-pass_item
decreases-pass_item l = 3 * length l.marks.now

abbrev pub decreases-exchange_kid : goal.decreases-exchange_kid
decreases-exchange_kid l = 3 * length l.marks.now + 1

abbrev pub decreases-exchange_kids : goal.decreases-exchange_kids
decreases-exchange_kids l = 3 * length l.marks.now + 2

-- What was done, and then what is left, comes to what there is to do in all.
abbrev pub invariant-exchange_kids-loop-k : goal.invariant-exchange_kids-loop-k
invariant-exchange_kids-loop-k l = record {
  within : l.at ≤ length l.children;
  found : List Item;
  walked : Walked l.marks l.initial.terms l.terms l.left.marks l.left.terms
      (take l._k (read (reverse l.marks) (reverse l.initial.terms))) found;
  taken : found
      ++ taken_items (drop l._k (take l.kids (read (reverse l.marks) (reverse l.initial.terms)))) (drop l.at l.children)
      ≡ taken_items (take l.kids (read (reverse l.marks) (reverse l.initial.terms))) l.initial.children;
  children : take l.at l.children
      ++ changed_all (items_changes (drop l._k (take l.kids (read (reverse l.marks) (reverse l.initial.terms)))))
      (drop l.at l.children)
      ≡ changed_all (items_changes (take l.kids (read (reverse l.marks) (reverse l.initial.terms)))) l.initial.children;
}
