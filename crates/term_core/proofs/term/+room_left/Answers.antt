use Rattle.std.proofs.Common.{arith, ◌+◌}
use Rattle.term_core.proofs.TreeLemmas.{height_pos, size_pos, heights-take_more, sizes-take_more, heights-take, sizes-take}
use Rattle.term_core.proofs.term.+room_left.Goals as goal

pub Term::room_left-returns-then-height-eq0-clause-none : goal.Term::room_left-returns-then-height-eq0-clause-none
Term::room_left-returns-then-height-eq0-clause-none t c =
    λ fits. omega (arith, fits.0, fits.1, height_pos c.args.self.now, size_pos c.args.self.now)

pub room_left_by_all-returns-in_default-clause-none : goal.room_left_by_all-returns-in_default-clause-none
room_left_by_all-returns-in_default-clause-none t c = λ fits.
    let i = c.loop-term.term-index in
    let x = c.term-item.result in
    let high = heights-take_more c.args.terms.now i x c.loop-term-test.true c.term-item.is in
    let large = sizes-take_more c.args.terms.now i x c.loop-term-test.true c.term-item.is in
    let highs = heights-take c.args.terms.now (i + 1) in
    let larges = sizes-take c.args.terms.now (i + 1) in
    c.in_default.ensures.none
    (omega (arith, high, highs, fits.0), omega (arith, large, larges, fits.1, c.loop-term.invariant.1))

pub room_left_by_all-loop-term-preserved : goal.room_left_by_all-loop-term-preserved
room_left_by_all-loop-term-preserved t c =
    let i = c.loop-term.term-index in
    let x = c.term-item.result in
    let high = heights-take_more c.args.terms.now i x c.loop-term-test.true c.term-item.is in
    let large = sizes-take_more c.args.terms.now i x c.loop-term-test.true c.term-item.is in
    let some = c.in-Some.ensures.some in
    (omega (arith, high, some.0, c.loop-term.invariant.0), omega (arith, large, some.1, c.loop-term.invariant.1))
