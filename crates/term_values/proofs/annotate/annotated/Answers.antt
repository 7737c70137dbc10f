use Rattle.std.proofs.Common.{sym, subst}
use Rattle.term_core.specs.Tree.{of_list, with_annotations}
use Rattle.term_core.specs.Size.{height, heights, size, sizes}
use Rattle.term_values.specs.declared.value.Annotated.{Annotated}
use Rattle.term_values.specs.inside.Bounded.{Bounded}
use Rattle.term_values.specs.inside.Shape.{AnnotatedShape}
use Rattle.term_values.specs.inside.ValueView.{annotation_list}
use Rattle.term_values.proofs.SizeLemmas.{annotated_bounded, bounded_along}
use Rattle.term_values.proofs.annotate.annotated.Goals as goal

pub invariant_of-result : goal.invariant_of-result
invariant_of-result c =
    let b = c.before-bounds.result in
    let t = c.args.node in
    let ns = annotation_list c.args.annotations in
    let mine = bounded_along _ t c.node.inside.bounds c.node.view_is c.node.invariant.bounded in
    let both =
    c.before-bounds.ensures (sizes (of_list ns)) (heights (of_list ns)) (size t) (height t) c.requires.bounds mine in
    record {
      shape = subst (λ (x : Annotated). AnnotatedShape x.node (annotation_list x.annotations))
          (sym c.in_ok-annotated.ensures.ok) c.requires.shape;
      bounded = subst (λ (x : Annotated). Bounded (with_annotations x.node (annotation_list x.annotations)) b)
          (sym c.in_ok-annotated.ensures.ok) (annotated_bounded t ns b c.requires.shape.bare both);
    }
