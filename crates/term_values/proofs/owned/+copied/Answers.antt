use Rattle.std.proofs.Common.{arith, ap, ◌+◌}
use Rattle.term_core.specs.Tree.{of_list}
use Rattle.term_core.specs.Size.{heights}
use Rattle.term_core.proofs.TreeLemmas.{heights-take_more, heights-take}
use Rattle.term_values.proofs.SizeLemmas.{height_parts}
use Rattle.term_values.proofs.owned.+copied.Goals as goal

pub copied-all_copied-requires : goal.copied-all_copied-requires
copied-all_copied-requires t c =
    (omega (arith, height_parts c.args.term.now, ap (λ l. heights (of_list l)) c.children.ensures, c.decreases), tt)

pub copied-all_copied-requires-2 : goal.copied-all_copied-requires-2
copied-all_copied-requires-2 t c =
    (omega (arith, height_parts c.args.term.now, ap (λ l. heights (of_list l)) c.annotations.ensures, c.decreases), tt)

pub all_copied-copied-requires : goal.all_copied-copied-requires
all_copied-copied-requires t c =
    let i = c.loop-term.term-index in
    let all = c.args.terms.now in
    let high = heights-take_more all i c.term-item.result c.loop-term-test.true c.term-item.is in
    (omega (arith, high, heights-take all (i + 1), c.decreases), tt)
