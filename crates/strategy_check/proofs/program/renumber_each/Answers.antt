use Rattle.std.proofs.Common.{◌<◌, length, get_or, slice_set, ap, ◌∙◌, arith}
use Rattle.strategy_check.specs.inside.Replacing.{renumbered_definition}
use Rattle.strategy_check.proofs.ChangeLemmas.{partly, partly-none, partly-all, partly-at, partly-set, partly-length}
use Rattle.strategy_check.proofs.program.renumber_each.Goals as goal

pub loop-i-init : goal.loop-i-init
loop-i-init c = partly-none (renumbered_definition c.args.numbers.now) c.args.bodies.now.items

pub loop-i-preserved : goal.loop-i-preserved
loop-i-preserved c =
    let i = c.loop-i.i in
    let rs = c.args.bodies.now.items in
    let f = renumbered_definition c.args.numbers.now in
    let d = c.index_mut.result.now in
    let within : i < length rs = omega (arith, c.loop-i-test.true, c.len-i-end.ensures) in
    let same = c.index_mut.ensures.value ∙ ap (λ xs. get_or xs i d) c.loop-i.invariant ∙ partly-at f i rs d within in
    ap (λ s. slice_set c.loop-i.bodies.items i (record { variables = d.variables; strategy = s })) c.renumber.ensures
    ∙ ap (λ r. slice_set c.loop-i.bodies.items i (f r)) same
    ∙ ap (λ xs. slice_set xs i (f (get_or rs i d))) c.loop-i.invariant
    ∙ partly-set f i rs d within
    ∙ ap (λ k. partly f k rs) (omega arith)

pub returns : goal.returns
returns c =
    c.loop-i.invariant
    ∙ partly-all (renumbered_definition c.args.numbers.now) c.loop-i.i c.args.bodies.now.items
    (omega (
      arith,
      c.loop-i-test.false,
      ap length c.loop-i.invariant,
      partly-length (renumbered_definition c.args.numbers.now) c.loop-i.i c.args.bodies.now.items,
    ))
