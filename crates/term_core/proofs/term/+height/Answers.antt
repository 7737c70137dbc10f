use Rattle.std.proofs.Common.{arith}
use Rattle.term_core.proofs.TreeLemmas.{heights-take_more}
use Rattle.term_core.proofs.term.+height.Goals as goal

pub greatest_height-loop-term-preserved-then-is_leaf : goal.greatest_height-loop-term-preserved-then-is_leaf
greatest_height-loop-term-preserved-then-is_leaf t c =
    omega (
      arith,
      c.is_leaf.ensures.height c.if-is_leaf.true,
      c.max-greatest.ensures,
      heights-take_more c.args.terms.now c.loop-term.term-index c.term-item.result c.loop-term-test.true c.term-item.is,
    )

pub greatest_height-loop-term-preserved : goal.greatest_height-loop-term-preserved
greatest_height-loop-term-preserved t c =
    omega (
      arith,
      c.height.ensures,
      c.max-greatest-in-loop-term.ensures,
      heights-take_more c.args.terms.now c.loop-term.term-index c.term-item.result c.loop-term-test.true c.term-item.is,
    )
