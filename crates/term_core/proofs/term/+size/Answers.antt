use Rattle.std.proofs.Common.{arith}
use Rattle.term_core.proofs.TreeLemmas.{sizes-take_more}
use Rattle.term_core.proofs.term.+size.Goals as goal

pub total_size-loop-term-preserved : goal.total_size-loop-term-preserved
total_size-loop-term-preserved t c =
    omega (
      arith,
      c.size.ensures,
      c.saturating_add-total.ensures,
      sizes-take_more c.args.terms.now c.loop-term.term-index c.term-item.result c.loop-term-test.true c.term-item.is,
    )
