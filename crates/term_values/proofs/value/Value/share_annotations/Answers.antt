use Rattle.std.proofs.Common.{arith, length, subst, List, ◌∙◌, sym}
use Rattle.term_core.specs.Tree.{Tree, annotations}
use Rattle.term_core.specs.Size.{height, size}
use Rattle.term_values.specs.inside.Bounded.{AllWithin}
use Rattle.term_values.specs.inside.ValueFalls.{size_parts}
use Rattle.term_values.proofs.SizeLemmas.{height_parts, within_all, bounded_along}
use Rattle.term_values.proofs.value.Value.share_annotations.Goals as goal

pub values-requires : goal.values-requires
values-requires c =
    let t = c.args.self.now in
    let mine = bounded_along _ t c.self.inside.bounds c.self.view_is c.self.invariant.bounded in
    let all = within_all (annotations t) c.less-within.result (length (annotations t)) (size t) (height t)
    (λ u p q.
    c.less-within.ensures (size t) (height t) (size u) (height u) mine (omega (arith, p, c.annotation_count.ensures)) q)
    (omega (arith, size_parts t)) (omega (arith, height_parts t)) in
    subst (λ (us : List Tree). AllWithin us c.less-within.result) (sym (c.alone.ensures ∙ c.annotations.ensures)) all
