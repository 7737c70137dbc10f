use Rattle.std.proofs.Common.{◌≡◌, length, rules, arith, ap, sym, take, ◌+◌}
use Rattle.term_core.specs.Tree.{of_list, annotations}
use Rattle.term_core.specs.Size.{size, sizes, height, heights}
use Rattle.term_core.proofs.TreeLemmas.{size_pos, sizes-take_more, heights-take_more, sizes-take}
use Rattle.term_values.specs.inside.ValueFalls.{size_parts}
use Rattle.term_values.proofs.SizeLemmas.{node_bounded, bare_bounded, nothing, covers_along}
use Rattle.term_values.proofs.measure.+term_measured.Goals as goal

pub terms_measured-term_measured-requires : goal.terms_measured-term_measured-requires
terms_measured-term_measured-requires t c =
    let all = c.args.terms.now in
    let i = c.loop-i.i in
    let more = sizes-take_more all i c.index-terms-i.result c.loop-i-test.true c.index-terms-i.is in
    (omega (arith, more, sizes-take all (i + 1), c.decreases), tt)

pub terms_measured-loop-i-preserved : goal.terms_measured-loop-i-preserved
terms_measured-loop-i-preserved t c =
    let all = c.args.terms.now in
    let i = c.loop-i.i in
    let us = take i all in
    let v = c.index-terms-i.result in
    let b = c.and-all.result in
    let done = c.loop-i.invariant in
    let one = c.in-Some.ensures.some in
    let both =
    c.and-all.ensures.covers (sizes (of_list us)) (heights (of_list us)) (size v) (height v) done.0.0 one.0.0 in
    let more = sizes-take_more all i v c.loop-i-test.true c.index-terms-i.is in
    let high = heights-take_more all i v c.loop-i-test.true c.index-terms-i.is in (
      (covers_along _ _ _ _ b (sym more) (sym high) both, c.and-all.ensures.exact done.0.1 one.0.1),
      omega (arith, more, done.1, one.1),
    )

pub terms_measured-returns-in_default-clause-none :
    goal.terms_measured-returns-in_default-clause-none
terms_measured-returns-in_default-clause-none t c =
    let all = c.args.terms.now in
    let i = c.loop-i.i in
    let more = sizes-take_more all i c.index-terms-i.result c.loop-i-test.true c.index-terms-i.is in
    omega (arith, more, sizes-take all (i + 1), c.loop-i.invariant.1, c.in_default.ensures.none)

pub term_measured-returns-then-left-eq0-clause-none : goal.term_measured-returns-then-left-eq0-clause-none
term_measured-returns-then-left-eq0-clause-none t c = omega (arith, size_pos c.args.term.now, c.if-left-eq0.true)

pub term_measured-returns-then-is_empty-clause-some : goal.term_measured-returns-then-is_empty-clause-some
term_measured-returns-then-is_empty-clause-some t c =
    let u = c.args.term.now in
    let us = c.children.result.now in
    let a = c.in_ok-children.ensures.some in
    let none : length (annotations u) ≡ 0 = search rules in
    let over = c.over.ensures.covers _ _ a.0.0 in (
      (bare_bounded u us c.over.result c.children.ensures none over, c.over.ensures.exact a.0.1),
      omega (
        arith,
        size_parts u,
        ap (λ l. sizes (of_list l)) c.children.ensures,
        ap (λ l. sizes (of_list l)) (nothing (annotations u) none),
        a.1,
        c.if-left-eq0.false,
      ),
    )

pub term_measured-returns-clause-some : goal.term_measured-returns-clause-some
term_measured-returns-clause-some t c =
    let u = c.args.term.now in
    let us = c.children.result.now in
    let ns = c.annotations-annotations.result.now in
    let a = c.in_ok-children.ensures.some in
    let b = c.in_ok-annotations.ensures.some in
    let both = c.and.ensures.covers (sizes (of_list us)) (heights (of_list us)) (sizes (of_list ns))
    (heights (of_list ns)) a.0.0 b.0.0 in
    let over = c.over-2.ensures.covers _ _ both in (
      (
        node_bounded u us ns c.over-2.result c.children.ensures c.annotations-annotations.ensures over,
        c.over-2.ensures.exact (c.and.ensures.exact a.0.1 b.0.1),
      ),
      omega (
        arith,
        size_parts u,
        ap (λ l. sizes (of_list l)) c.children.ensures,
        ap (λ l. sizes (of_list l)) c.annotations-annotations.ensures,
        a.1,
        b.1,
        c.if-left-eq0.false,
      ),
    )
