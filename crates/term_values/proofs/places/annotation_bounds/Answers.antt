use Rattle.term_core.specs.Tree.{of_list, annotations}
use Rattle.term_core.specs.Size.{heights, sizes}
use Rattle.term_values.proofs.places.annotation_bounds.Goals as goal

pub returns-else-is_empty : goal.returns-else-is_empty
returns-else-is_empty c =
    c.unknown.ensures (sizes (of_list (annotations c.args.of.now))) (heights (of_list (annotations c.args.of.now)))
