use Rattle.std.proofs.Common.{◌∙◌, ◌-◌, reverse, length, ap, sym, arith, refl}
use Rattle.term_changes.specs.Items.{after_skipped}
use Rattle.term_changes.specs.declared.draft.PlaceMark.{PlaceMark}
use Rattle.term_changes.proofs.DraftLemmas.{left_whole, left_read}
use Rattle.term_changes.proofs.draft.Draft.leave.Goals as goal

pub invariant_of-self : goal.invariant_of-self
invariant_of-self c =
    let ms = c.self.inside.marks.items in
    let y : PlaceMark = record { skipped = c.args.skipped; kids = c.index_mut.result.now.kids } in
    left_whole ms (c.len-count.result - 1) c.index_mut.result.now y c.index_mut.result.now
    (omega (arith, c.len-count.ensures, c.if-count-gt0.true)) (sym c.index_mut.ensures.value) refl
    (length c.self.inside.terms.items) c.self.invariant

pub returns-then-count-gt0 : goal.returns-then-count-gt0
returns-then-count-gt0 c =
    let ms = c.self.inside.marks.items in
    let y : PlaceMark = record { skipped = c.args.skipped; kids = c.index_mut.result.now.kids } in
    left_read ms (c.len-count.result - 1) c.index_mut.result.now y c.index_mut.result.now
    (omega (arith, c.len-count.ensures, c.if-count-gt0.true)) (sym c.index_mut.ensures.value) refl
    (reverse c.self.inside.terms.items)
    ∙ ap (after_skipped c.args.skipped) c.self.view_is
