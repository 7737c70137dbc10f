use Rattle.std.proofs.Common.{arith, ◌∷◌, ◌++◌, [], ap, sym, ◌∙◌, append_assoc}
use Rattle.term_core.specs.Tree.{of_list}
use Rattle.term_core.specs.Size.{size, sizes, height, heights}
use Rattle.term_core.proofs.TreeLemmas.{size_pos}
use Rattle.term_values.specs.Seen.{seen_tree}
use Rattle.term_values.specs.inside.ValueFalls.{sizes-append, size_parts}
use Rattle.term_values.proofs.SizeLemmas.{member_size, all_bounded_more, node_bounded}
use Rattle.term_values.proofs.measure.+measured.Goals as goal

pub all_measured-measured_within-requires : goal.all_measured-measured_within-requires
all_measured-measured_within-requires t c =
    let done = c.loop-seen.invariant in
    let whole = ap (λ l. done.0 ++ l) (sym c.in-Some.ensures) ∙ done.1 in (
      omega (arith, member_size done.0 c.next.new.self c.args.elements (seen_tree c.in-Some.seen) whole, c.decreases),
      tt,
    )

pub all_measured-loop-seen-preserved : goal.all_measured-loop-seen-preserved
all_measured-loop-seen-preserved t c =
    let done = c.loop-seen.invariant in
    let us = done.0 in
    let v = seen_tree c.in-Some.seen in
    let b = c.and-all.result in
    let one = c.in-Some-measured_within.ensures.some in
    let both =
    c.and-all.ensures.covers (sizes (of_list us)) (heights (of_list us)) (size v) (height v) done.2.0 one.0.0 in
    let whole = append_assoc us (v ∷ []) c.next.new.self ∙ ap (λ l. us ++ l) (sym c.in-Some.ensures) ∙ done.1 in (
      us ++ v ∷ [],
      whole,
      (all_bounded_more us v b both, c.and-all.ensures.exact done.2.1 one.0.1),
      omega (arith, sizes-append us (v ∷ []), done.3, one.1),
    )

pub measured_within-returns-then-left-eq0-clause-none :
    goal.measured_within-returns-then-left-eq0-clause-none
measured_within-returns-then-left-eq0-clause-none t c =
    omega (arith, size_pos (seen_tree c.args.seen), c.if-left-eq0.true)

pub measured_within-returns-clause-some : goal.measured_within-returns-clause-some
measured_within-returns-clause-some t c =
    let u = seen_tree c.args.seen in
    let us = c.elements.result in
    let ns = c.annotations.result in
    let a = c.in_ok-children.ensures.some in
    let b = c.in_ok-annotations.ensures.some in
    let both = c.and.ensures.covers (sizes (of_list us)) (heights (of_list us)) (sizes (of_list ns))
    (heights (of_list ns)) a.0.0 b.0.0 in
    let over = c.over.ensures.covers _ _ both in (
      (
        node_bounded u us ns c.over.result c.elements.ensures c.annotations.ensures over,
        c.over.ensures.exact (c.and.ensures.exact a.0.1 b.0.1),
      ),
      omega (
        arith,
        size_parts u,
        ap (λ l. sizes (of_list l)) c.elements.ensures,
        ap (λ l. sizes (of_list l)) c.annotations.ensures,
        a.1,
        b.1,
        c.if-left-eq0.false,
      ),
    )

pub all_measured-returns-in_default-measured_within-clause-none :
    goal.all_measured-returns-in_default-measured_within-clause-none
all_measured-returns-in_default-measured_within-clause-none t c =
    let done = c.loop-seen.invariant in
    let whole = ap (λ l. done.0 ++ l) (sym c.in-Some.ensures) ∙ done.1 in
    let v = seen_tree c.in-Some.seen in
    omega (
      arith,
      ap (λ l. sizes (of_list l)) whole,
      sizes-append done.0 (v ∷ c.next.new.self),
      done.3,
      c.in_default-measured_within.ensures.none,
    )
