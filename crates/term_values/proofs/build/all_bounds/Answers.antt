use Rattle.std.proofs.Common.{sym, take}
use Rattle.term_core.specs.Tree.{of_list}
use Rattle.term_core.specs.Size.{height, heights, size, sizes}
use Rattle.term_core.proofs.TreeLemmas.{sizes-take_more, heights-take_more}
use Rattle.term_values.proofs.SizeLemmas.{covers_along, bounded_along}
use Rattle.term_values.proofs.build.all_bounds.Goals as goal

pub loop-value-preserved : goal.loop-value-preserved
loop-value-preserved c =
    let i = c.loop-value.value-index in
    let all = c.args.values.now in
    let done = of_list (take i all) in
    let v = c.value-item.result in
    let mine = bounded_along _ v c.value.inside.bounds c.value.view_is c.value.invariant.bounded in
    let both = c.and-all.ensures.covers (sizes done) (heights done) (size v) (height v) c.loop-value.invariant mine in
    covers_along _ _ _ _ c.and-all.result (sym (sizes-take_more all i v c.loop-value-test.true c.value-item.is))
    (sym (heights-take_more all i v c.loop-value-test.true c.value-item.is)) both
