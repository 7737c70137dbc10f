use Rattle.std.proofs.Common.{◌≡◌, ◌++◌, [], ◌∷◌, length, take, drop, reverse, suc, ◌+◌, ◌-◌, refl, sym, ap, subst, ◌∙◌, arith, add-one, append_assoc, slice_index_or, get_or}
use Rattle.std.proofs.lemmas.Option.{slice_get-get_or}
use Rattle.term_core.specs.Tree.{integer, none}
use Rattle.std.specs.Prelude.{pos}
use Rattle.term_changes.specs.Change.{changed_all}
use Rattle.term_changes.specs.Items.{items_changes, first_item}
use Rattle.term_changes.specs.inside.ItemCodes.{taken_items}
use Rattle.term_changes.specs.inside.Marks.{read}
use Rattle.term_changes.specs.inside.Walked.{Walked}
use Rattle.term_changes.specs.declared.draft.PlaceMark.{PlaceMark}
use Rattle.term_changes.proofs.WalkLemmas.{next_children, found, next_taken, last_children, not_found, last_taken}
use Rattle.term_changes.proofs.ExchangeLemmas.{item_skipped, node_walked, node_passed, one, leaf_passed, next_walked, next_item}
use Rattle.term_changes.proofs.exchange.+exchange.Goals as goal

pub exchange_item-returns-then-mark-gt0-clause-walked :
    goal.exchange_item-returns-then-mark-gt0-clause-walked
exchange_item-returns-then-mark-gt0-clause-walked t c =
    let ms = c.args.marks.now in
    let ts = c.args.terms.now in
    let last = length ms - 1 in
    let d : PlaceMark = record { skipped = 0; kids = 0 } in
    let x = slice_index_or ms last d in
    let kids = take x.kids (read (reverse (take last ms)) (reverse ts)) in
    node_walked ms ts last x d (omega (arith, c.requires.some)) refl c.requires.whole
    (x.kids - 1) (omega (arith, c.if-mark-gt0.true))
    c.exchange_kids.new.terms c.exchange_kids.result.marks c.exchange_kids.result.terms c.args.tree.now
    (subst
    (λ us. Walked (take last ms) ts c.exchange_kids.new.terms c.exchange_kids.result.marks c.exchange_kids.result.terms
    kids (taken_items kids us)) c.children_mut.ensures.value c.exchange_kids.ensures.walked)

pub pass_item-returns-then-mark-gt0 : goal.pass_item-returns-then-mark-gt0
pass_item-returns-then-mark-gt0 t c =
    let ms = c.args.marks.now in
    let last = length ms - 1 in
    let d : PlaceMark = record { skipped = 0; kids = 0 } in
    let x = slice_index_or ms last d in
    record {
      walked = node_passed ms c.args.terms.now last x d (omega (arith, c.requires.some)) refl c.requires.whole
          (x.kids - 1) (omega (arith, c.if-mark-gt0.true))
          c.exchange_kids.new.terms c.exchange_kids.result.marks c.exchange_kids.result.terms
          c.exchange_kids.ensures.walked;
    }

pub pass_item-returns : goal.pass_item-returns
pass_item-returns t c =
    let ms = c.args.marks.now in
    let ts = c.args.terms.now in
    let last = length ms - 1 in
    let d : PlaceMark = record { skipped = 0; kids = 0 } in
    let x = slice_index_or ms last d in
    let h : suc last ≡ length ms = omega (arith, c.requires.some) in
    let e : x.kids ≡ 0 = omega (arith, c.if-mark-gt0.false) in
    record {
      walked = leaf_passed ms ts last x d h refl c.requires.whole e (length ts - 1) (integer (pos 0) none)
          (omega (arith, one ms ts last x d h refl c.requires.whole e));
    }

-- ---- one place below the children

pub exchange_kid-returns-then-skipped-children-clause-children :
    goal.exchange_kid-returns-then-skipped-children-clause-children
exchange_kid-returns-then-skipped-children-clause-children t c =
    let ms = c.args.marks.now in
    let ts = c.args.terms.now in
    let d : PlaceMark = record { skipped = 0; kids = 0 } in
    let gap = item_skipped ms ts (length ms - 1) (slice_index_or ms (length ms - 1) d) d
    (omega (arith, c.requires.some)) refl c.requires.whole in
    last_children c.args.at.now (length c.args.children.now) c.args.children.now
    (first_item (read (reverse ms) (reverse ts)))
    (omega (arith, gap, c.if-skipped-children.true, c.requires.within)) refl

pub exchange_kid-returns-then-skipped-children-clause-taken :
    goal.exchange_kid-returns-then-skipped-children-clause-taken
exchange_kid-returns-then-skipped-children-clause-taken t c =
    let ms = c.args.marks.now in
    let ts = c.args.terms.now in
    let d : PlaceMark = record { skipped = 0; kids = 0 } in
    let gap = item_skipped ms ts (length ms - 1) (slice_index_or ms (length ms - 1) d) d
    (omega (arith, c.requires.some)) refl c.requires.whole in
    last_taken c.args.at.now (length c.args.children.now) c.args.children.now
    (first_item (read (reverse ms) (reverse ts)))
    (omega (arith, gap, c.if-skipped-children.true, c.requires.within)) refl

pub exchange_kid-returns-then-skipped-children-clause-walked :
    goal.exchange_kid-returns-then-skipped-children-clause-walked
exchange_kid-returns-then-skipped-children-clause-walked t c =
    let ms = c.args.marks.now in
    let ts = c.args.terms.now in
    let d : PlaceMark = record { skipped = 0; kids = 0 } in
    let x = first_item (read (reverse ms) (reverse ts)) in
    let gap = item_skipped ms ts (length ms - 1) (slice_index_or ms (length ms - 1) d) d
    (omega (arith, c.requires.some)) refl c.requires.whole in
    subst (λ y. Walked ms ts c.pass_item.new.terms c.pass_item.result.marks c.pass_item.result.terms (x ∷ []) (y ∷ []))
    (sym (not_found c.args.at.now (length c.args.children.now) c.args.children.now x
    (omega (arith, gap, c.if-skipped-children.true, c.requires.within)) refl))
    c.pass_item.ensures.walked

pub exchange_kid-returns-clause-children : goal.exchange_kid-returns-clause-children
exchange_kid-returns-clause-children t c =
    let ms = c.args.marks.now in
    let ts = c.args.terms.now in
    let us = c.args.children.now in
    let d : PlaceMark = record { skipped = 0; kids = 0 } in
    let gap = item_skipped ms ts (length ms - 1) (slice_index_or ms (length ms - 1) d) d
    (omega (arith, c.requires.some)) refl c.requires.whole in
    let j = c.args.at.now + (slice_index_or ms (length ms - 1) d).skipped in
    next_children c.args.at.now j (j + 1) us (get_or us j c.index-children-at.result) c.exchange_item-left.new.tree
    (first_item (read (reverse ms) (reverse ts)))
    (omega (arith, gap)) (add-one j)
    (slice_get-get_or us j c.index-children-at.result (omega (arith, c.if-skipped-children.false, c.requires.within)))
    c.exchange_item-left.ensures.tree

pub exchange_kid-returns-clause-taken : goal.exchange_kid-returns-clause-taken
exchange_kid-returns-clause-taken t c =
    let ms = c.args.marks.now in
    let ts = c.args.terms.now in
    let us = c.args.children.now in
    let d : PlaceMark = record { skipped = 0; kids = 0 } in
    let gap = item_skipped ms ts (length ms - 1) (slice_index_or ms (length ms - 1) d) d
    (omega (arith, c.requires.some)) refl c.requires.whole in
    let j = c.args.at.now + (slice_index_or ms (length ms - 1) d).skipped in
    next_taken c.args.at.now j (j + 1) us (get_or us j c.index-children-at.result) c.exchange_item-left.new.tree
    (first_item (read (reverse ms) (reverse ts)))
    (omega (arith, gap)) (add-one j)
    (slice_get-get_or us j c.index-children-at.result (omega (arith, c.if-skipped-children.false, c.requires.within)))

pub exchange_kid-returns-clause-walked : goal.exchange_kid-returns-clause-walked
exchange_kid-returns-clause-walked t c =
    let ms = c.args.marks.now in
    let ts = c.args.terms.now in
    let us = c.args.children.now in
    let d : PlaceMark = record { skipped = 0; kids = 0 } in
    let x = first_item (read (reverse ms) (reverse ts)) in
    let gap = item_skipped ms ts (length ms - 1) (slice_index_or ms (length ms - 1) d) d
    (omega (arith, c.requires.some)) refl c.requires.whole in
    let j = c.args.at.now + (slice_index_or ms (length ms - 1) d).skipped in
    subst (λ y. Walked ms ts c.exchange_item-left.new.terms c.exchange_item-left.result.marks
    c.exchange_item-left.result.terms (x ∷ []) (y ∷ []))
    (sym (found c.args.at.now j (j + 1) us (get_or us j c.index-children-at.result) c.exchange_item-left.new.tree x
    (omega (arith, gap)) (add-one j)
    (slice_get-get_or us j c.index-children-at.result (omega (arith, c.if-skipped-children.false, c.requires.within)))))
    c.exchange_item-left.ensures.walked

-- ---- all of them

pub exchange_kids-loop-k-preserved : goal.exchange_kids-loop-k-preserved
exchange_kids-loop-k-preserved t c =
    let ms = c.args.marks.now in
    let ts = c.args.terms.now in
    let k = c.loop-k._k in
    let m = c.loop-k.left.marks in
    let n = c.loop-k.left.terms in
    let now = c.loop-k.terms in
    let us = c.loop-k.children in
    let found = c.loop-k.invariant.found in
    let kids = take c.args.kids (read (reverse ms) (reverse ts)) in
    let x = first_item (read (reverse (take m ms)) (reverse (take n now))) in
    let more = taken_items (x ∷ []) (drop c.loop-k.at us) in
    let rest = drop (k + 1) kids in
    let item = next_item ms ts now m n k c.args.kids found c.requires.some c.requires.whole c.loop-k-test.true
    c.loop-k.invariant.walked (k + 1) (add-one k) in
    record {
      within = c.exchange_kid-left.ensures.within;
      found = found ++ more;
      walked = next_walked ms ts now m n k c.args.kids found c.requires.some c.requires.whole c.loop-k-test.true
          c.loop-k.invariant.walked
          c.exchange_kid-left.new.terms c.exchange_kid-left.result.marks c.exchange_kid-left.result.terms (k + 1) more
          (add-one k) c.exchange_kid-left.ensures.walked;
      taken =
          append_assoc found more (taken_items rest (drop c.exchange_kid-left.new.at c.exchange_kid-left.new.children))
          ∙ ap (λ l. found ++ l)
          (sym (c.exchange_kid-left.ensures.taken rest) ∙ ap (λ xs. taken_items xs (drop c.loop-k.at us)) (sym item))
          ∙ c.loop-k.invariant.taken;
      children =
          c.exchange_kid-left.ensures.children rest
          ∙ ap (λ xs. take c.loop-k.at us ++ changed_all (items_changes xs) (drop c.loop-k.at us)) (sym item)
          ∙ c.loop-k.invariant.children;
    }
