use Rattle.std.proofs.Common.{List, map, take, sym, subst}
use Rattle.term_core.specs.Tree.{Tree, of_list}
use Rattle.term_core.specs.Size.{height, heights, size, sizes}
use Rattle.term_changes.specs.Standing.{standing_tree}
use Rattle.term_values.specs.inside.Bounded.{AllBounded}
use Rattle.term_values.proofs.SizeLemmas.{all_bounded_more}
use Rattle.term_values.proofs.PlaceLemmas.{trees_more}
use Rattle.term_values.proofs.places.many_bounds.Goals as goal

pub loop-part-preserved : goal.loop-part-preserved
loop-part-preserved c =
    let i = c.loop-part.part-index in
    let ps = c.args.parts.now in
    let p = c.part-item.result in
    let done = map standing_tree (take i ps) in
    let v = standing_tree p in
    let b = c.and-all.result in
    let both = c.and-all.ensures.covers (sizes (of_list done)) (heights (of_list done)) (size v) (height v)
    c.loop-part.invariant c.bounds.ensures in
    subst (λ (us : List Tree). AllBounded us b) (sym (trees_more ps i p c.loop-part-test.true c.part-item.is))
    (all_bounded_more done v b both)
