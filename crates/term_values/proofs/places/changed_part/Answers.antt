use Rattle.std.proofs.Common.{List, map, ap, sym, subst, ◌∙◌}
use Rattle.term_core.specs.Tree.{Tree, of_list, children, annotations}
use Rattle.term_core.specs.Size.{heights, sizes}
use Rattle.term_changes.specs.Standing.{after, Standing, standing_tree, SuitAll}
use Rattle.term_changes.proofs.StandingLemmas.{altered_children}
use Rattle.term_values.specs.inside.Bounded.{AllBounded}
use Rattle.term_values.specs.inside.ValueView.{parts_list}
use Rattle.term_values.proofs.SizeLemmas.{node_bounded}
use Rattle.term_values.proofs.PlaceLemmas.{altered_annotations}
use Rattle.term_values.proofs.places.changed_part.Goals as goal

pub invariant_of-result : goal.invariant_of-result
invariant_of-result c =
    let t = c.args.of.now in
    let ps = parts_list c.taken.result in
    let us = map standing_tree ps in
    let ns = annotations t in
    let x = c.in_ok-changed.changed.value in
    let is = sym c.in_ok-changed.ensures.ok in
    let suit = subst (λ (l : List Standing). SuitAll (children t) l) (sym c.taken.ensures) c.requires in
    let parts = subst (λ (l : List Tree). AllBounded l c.parts_bounds.result)
    (ap (map standing_tree) (c.as_slice.ensures.value ∙ sym c.taken.ensures)) c.parts_bounds.ensures in
    let both = c.and.ensures.covers (sizes (of_list us)) (heights (of_list us)) (sizes (of_list ns))
    (heights (of_list ns)) parts c.annotation_bounds.ensures in
    let over = c.over-bounds.ensures.covers _ _ both in
    node_bounded (after x) us ns c.over-bounds.result (sym (altered_children t ps x is suit))
    (altered_annotations t ps x is) over
