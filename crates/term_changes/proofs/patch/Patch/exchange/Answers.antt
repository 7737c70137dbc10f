use Rattle.std.proofs.Common.{◌≡◌, ◌∙◌, ◌++◌, reverse, length, take, drop, ap, sym, arith}
use Rattle.std.proofs.Math.Seq.{take-append_seam}
use Rattle.term_changes.specs.Change.{changed}
use Rattle.term_changes.specs.Exchange.{taken}
use Rattle.term_changes.specs.Items.{Item, first_item}
use Rattle.term_changes.specs.inside.Marks.{read}
use Rattle.term_changes.proofs.DraftLemmas.{none_changed}
use Rattle.term_changes.proofs.WalkedLemmas.{walked_now}
use Rattle.term_changes.proofs.patch.Patch.exchange.Goals as goal

pub returns-else-marks-gt0-clause-tree : goal.returns-else-marks-gt0-clause-tree
returns-else-marks-gt0-clause-tree c =
    sym (none_changed c.self.inside.marks.items (reverse c.self.inside.terms.items) c.args.tree.now
    (omega (arith, ap length c.as_slice-marks.ensures.value, c.if-marks-gt0.false)))
    ∙ ap (λ d. changed d c.args.tree.now) c.self.view_is

pub returns-then-marks-gt0-clause-patch : goal.returns-then-marks-gt0-clause-patch
returns-then-marks-gt0-clause-patch c =
    let w = c.exchange_item-left.ensures.walked in
    let ms = c.as_slice-marks.result.now in
    let now = c.exchange_item-left.new.terms in
    let rest = drop (length now) c.self.inside.terms.items in
    let kept : take c.self.inside.terms.len (now ++ rest) ≡ now =
    ap (λ k. take k (now ++ rest)) (sym (w.as_many ∙ c.as_mut_slice.ensures.len)) ∙ take-append_seam now rest in
    (λ j. (first_item (read (reverse (sym c.as_slice-marks.ensures.value j)) (reverse (kept j)))).1)
    ∙ ap (λ (x : Item). x.1) (walked_now ms c.as_mut_slice.result.now now _ _ _ _ w)
    ∙ (λ j.
    taken (first_item (read (reverse (c.as_slice-marks.ensures.value j)) (reverse (c.as_mut_slice.ensures.value j)))).1
    c.args.tree.now)
    ∙ ap (λ d. taken d c.args.tree.now) c.self.view_is
