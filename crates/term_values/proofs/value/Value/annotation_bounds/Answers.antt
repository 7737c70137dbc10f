use Rattle.term_core.specs.Tree.{of_list, annotations}
use Rattle.term_core.specs.Size.{height, heights, size, sizes}
use Rattle.term_values.proofs.SizeLemmas.{annotations_size, annotations_height, bounded_along}
use Rattle.term_values.proofs.value.Value.annotation_bounds.Goals as goal

pub returns : goal.returns
returns c =
    let t = c.args.self.now in
    let mine = bounded_along _ t c.self.inside.bounds c.self.view_is c.self.invariant.bounded in
    c.less.ensures (size t) (height t) (sizes (of_list (annotations t))) (heights (of_list (annotations t))) mine
    (annotations_size t) (annotations_height t)
