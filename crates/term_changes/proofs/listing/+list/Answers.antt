use Rattle.std.proofs.Common.{◌++◌, length, take, drop, reverse, ◌+◌, ◌-◌, refl, sym, ap, ◌∙◌, arith, add-one, slice_index_or}
use Rattle.std.proofs.lemmas.Result.{IfOk-weaker}
use Rattle.term_paths.specs.Edits.{prefixed}
use Rattle.term_changes.specs.Change.{places_from}
use Rattle.term_changes.specs.Items.{items_changes, first_item}
use Rattle.term_changes.specs.Putting.{entries_at}
use Rattle.term_changes.specs.inside.Marks.{read}
use Rattle.term_changes.specs.declared.draft.PlaceMark.{PlaceMark}
use Rattle.term_changes.proofs.ExchangeLemmas.{item_skipped}
use Rattle.term_changes.proofs.ListingLemmas.{kid_listed, node_listed, item_listed, next_listed}
use Rattle.term_changes.proofs.listing.+list.Goals as goal

pub list_item-returns-then-mark-gt0-clause-listed :
    goal.list_item-returns-then-mark-gt0-clause-listed
list_item-returns-then-mark-gt0-clause-listed t c =
    let ms = c.args.marks.now in
    let last = length ms - 1 in
    let d : PlaceMark = record { skipped = 0; kids = 0 } in
    let x = slice_index_or ms last d in
    IfOk-weaker c.list_kids.result _ _
    (λ left. node_listed ms c.args.terms.now.items last x d (omega (arith, c.requires.some)) refl c.requires.whole
    (x.kids - 1) (omega (arith, c.if-mark-gt0.true)) c.list_kids.new.terms.items left)
    c.list_kids.ensures.listed

pub list_kid-returns-clause-plan : goal.list_kid-returns-clause-plan
list_kid-returns-clause-plan t c = λ xs.
    let ms = c.args.marks.now in
    let ts = c.args.terms.now.items in
    let d : PlaceMark = record { skipped = 0; kids = 0 } in
    let gap = item_skipped ms ts (length ms - 1) (slice_index_or ms (length ms - 1) d) d
    (omega (arith, c.requires.some)) refl c.requires.whole in
    kid_listed c.args.slot c.args.path.now.items c.push.new.self.items c.args.at.now c.in-Some.child
    c.in-Some-checked_add.next (first_item (read (reverse ms) (reverse ts))) xs c.args.plan.now c.list_item.new.plan
    (omega (arith, gap, c.in-Some.ensures)) (omega (arith, c.in-Some-checked_add.ensures)) c.in_ok-push.ensures.items
    c.in_ok-left.ensures.plan

pub list_kids-loop-k-preserved : goal.list_kids-loop-k-preserved
list_kids-loop-k-preserved t c =
    let ms = c.args.marks.now in
    let ts = c.args.terms.now.items in
    let k = c.loop-k._k in
    let kids = take c.args.kids (read (reverse ms) (reverse ts)) in
    let path = c.loop-k.invariant.path in
    record {
      path = c.in_ok-left.ensures.path ∙ path;
      listed = next_listed ms ts c.loop-k.terms.items c.loop-k.left k c.args.kids c.requires.some c.requires.whole
          c.loop-k-test.true c.loop-k.invariant.listed
          c.list_kid.new.terms.items c.in_ok-left.left (k + 1) (add-one k) c.in_ok-left.ensures.listed;
      plan =
          ap (λ q. c.list_kid.new.plan ++ entries_at c.args.slot
          (prefixed q (places_from c.list_kid.new.at (items_changes (drop (k + 1) kids))))) (sym path)
          ∙ c.in_ok-left.ensures.plan (drop (k + 1) kids)
          ∙ ap (λ xs. c.loop-k.plan
          ++ entries_at c.args.slot (prefixed c.loop-k.path.items (places_from c.loop-k.at (items_changes xs))))
          (sym (item_listed ms ts c.loop-k.terms.items c.loop-k.left k c.args.kids c.requires.some c.requires.whole
          c.loop-k-test.true c.loop-k.invariant.listed (k + 1) (add-one k)))
          ∙ ap (λ q. c.loop-k.plan
          ++ entries_at c.args.slot (prefixed q (places_from c.loop-k.at (items_changes (drop k kids))))) path
          ∙ c.loop-k.invariant.plan;
    }
