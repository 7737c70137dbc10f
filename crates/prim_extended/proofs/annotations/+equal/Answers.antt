use Rattle.std.proofs.Common.{◌+◌, arith}
use Rattle.term_core.proofs.TreeLemmas.{heights-take_more, heights-take}
use Rattle.prim_extended.proofs.AnnotationLemmas.{never_equal}
use Rattle.prim_extended.proofs.annotations.+equal.Goals as goal

pub all_equal-are_equal-requires : goal.all_equal-are_equal-requires
all_equal-are_equal-requires t c =
    let all = c.args.terms.now in
    let i = c.loop-i.i in (
      omega (
        arith,
        heights-take_more all i c.index-terms-i.result c.loop-i-test.true c.index-terms-i.is,
        heights-take all (i + 1),
        c.decreases,
      ),
      tt,
    )

pub all_equal-returns-then-terms-others : goal.all_equal-returns-then-terms-others
all_equal-returns-then-terms-others t c = never_equal c.args.terms.now c.args.others.now c.if-terms-others.true
