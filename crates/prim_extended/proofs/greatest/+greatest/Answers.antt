use Rattle.std.proofs.Common.{◌+◌, ◌∙◌, ap, arith}
use Rattle.term_core.specs.Tree.{of_list}
use Rattle.term_core.proofs.TreeLemmas.{heights-take_more, heights-take}
use Rattle.prim_extended.specs.Greatest.{greatest_of_all}
use Rattle.term_order.proofs.HeightLemmas.{children_lower}
use Rattle.prim_extended.proofs.GreatestLemmas.{of_children}
use Rattle.prim_extended.proofs.greatest.+greatest.Goals as goal

pub greatest-greatest_of-requires : goal.greatest-greatest_of-requires
greatest-greatest_of-requires t c =
    (omega (arith, children_lower c.args.term.now c.children.result.now c.children.ensures, c.decreases), tt)

pub greatest-returns : goal.greatest-returns
greatest-returns t c =
    c.greatest_of.ensures ∙ ap (λ us. greatest_of_all c.args.beginning.now c.args.least (of_list us)) c.children.ensures
    ∙ of_children c.args.beginning.now c.args.least c.args.term.now c.in_default.ensures

pub greatest_of-greatest-found-requires : goal.greatest_of-greatest-found-requires
greatest_of-greatest-found-requires t c =
    let all = c.args.terms.now in
    let i = c.loop-term.term-index in (
      omega (
        arith,
        heights-take_more all i c.term-item.result c.loop-term-test.true c.term-item.is,
        heights-take all (i + 1),
        c.decreases,
      ),
      tt,
    )
