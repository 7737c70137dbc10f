use Rattle.std.proofs.Common.{rules, ◌<◌, length, slice_set, get_or, ap, sym, subst, ◌∙◌, arith}
use Rattle.strategy_syntax.specs.Resolved.{resolveds_of}
use Rattle.strategy_syntax.specs.ResolvedView.{resolved_of}
use Rattle.strategy_syntax.specs.inside.ResolvedDepth.{depth}
use Rattle.strategy_syntax.specs.Renumbering.{renumbered}
use Rattle.strategy_syntax.specs.inside.Skipping.{Kept}
use Rattle.strategy_syntax.specs.Resolved.{ResolvedStrategy}
use Rattle.strategy_syntax.proofs.SkippingLemmas.{kept_renumbered}
use Rattle.strategy_syntax.proofs.RenumberingLemmas.{partly, partly-none, partly-all, partly-length, partly-at, partly-set, shallow}
use Rattle.strategy_syntax.proofs.resolved.+renumbering.Goals as goal

pub renumber_all-loop-i-init : goal.renumber_all-loop-i-init
renumber_all-loop-i-init t c = partly-none c.args.numbers.now c.args.parts.now.items

pub renumber_all-renumber-requires : goal.renumber_all-renumber-requires
renumber_all-renumber-requires t c =
    let i = c.loop-i.i in
    let ss = c.args.parts.now.items in
    let d = c.index_mut.result.now in
    let within : i < length ss = omega (arith, c.loop-i-test.true, c.len-i-end.ensures) in
    let same = c.index_mut.ensures.value ∙ ap (λ xs. get_or xs i d) c.loop-i.invariant
    ∙ partly-at c.args.numbers.now i ss d within in
    (omega (arith, shallow i ss d within, ap depth same), tt)

pub renumber_all-loop-i-preserved : goal.renumber_all-loop-i-preserved
renumber_all-loop-i-preserved t c =
    let i = c.loop-i.i in
    let ss = c.args.parts.now.items in
    let ns = c.args.numbers.now in
    let d = c.index_mut.result.now in
    let within : i < length ss = omega (arith, c.loop-i-test.true, c.len-i-end.ensures) in
    let same = c.index_mut.ensures.value ∙ ap (λ xs. get_or xs i d) c.loop-i.invariant ∙ partly-at ns i ss d within in
    ap (slice_set c.loop-i.parts.items i) (c.renumber.ensures ∙ ap (renumbered ns) same)
    ∙ ap (λ xs. slice_set xs i (renumbered ns (get_or ss i d))) c.loop-i.invariant
    ∙ partly-set ns i ss d within
    ∙ ap (λ k. partly ns k ss) (omega arith)

pub renumber_all-returns : goal.renumber_all-returns
renumber_all-returns t c =
    ap resolveds_of c.loop-i.invariant
    ∙ partly-all c.args.numbers.now c.loop-i.i c.args.parts.now.items
    (omega (
      arith,
      c.loop-i-test.false,
      ap length c.loop-i.invariant,
      partly-length c.args.numbers.now c.loop-i.i c.args.parts.now.items,
    ))

pub ResolvedStrategy::renumber-invariant_of-self : goal.ResolvedStrategy::renumber-invariant_of-self
ResolvedStrategy::renumber-invariant_of-self t c =
    subst (λ (s : ResolvedStrategy). Kept c.self.inside.skips s) (sym c.renumber_form.ensures)
    (kept_renumbered c.args.numbers.now c.self.inside.skips (resolved_of c.self.inside.form) c.self.invariant)
