use Rattle.std.proofs.Common.{◌≡◌, ◌+◌, max, List, [], ◌∷◌, ◌++◌, sym, subst, arith}
use Rattle.term_core.specs.Tree.{Tree, of_list, children, list_term}
use Rattle.term_core.specs.Size.{height, heights, size, sizes}
use Rattle.term_values.specs.declared.value.Joined.{Joined}
use Rattle.term_values.specs.inside.Bounded.{Bounded}
use Rattle.term_values.specs.inside.Shape.{JoinedShape}
use Rattle.term_values.specs.inside.ValueView.{front_list}
use Rattle.term_values.proofs.SizeLemmas.{joined_bounded, bounded_along, covers_along}
use Rattle.term_values.proofs.list.link.Goals as goal

pub invariant_of-result : goal.invariant_of-result
invariant_of-result c =
    let b = c.before-bounds.result in
    let v = c.measured_before-element.result in
    let t = c.args.list in
    let one = bounded_along _ v c.element.inside.bounds c.element.view_is c.element.invariant.bounded in
    let mine = bounded_along _ t c.list.inside.bounds c.list.view_is c.list.invariant.bounded in
    let both = c.before-bounds.ensures (size v) (height v) (size t) (height t) one mine in
    let us : List Tree = v ∷ [] in
    let s : size v + size t ≡ sizes (of_list us) + size t = omega arith in
    let h : max (height v + 1) (height t) ≡ max (heights (of_list us) + 1) (height t) = omega arith in
    let whole = covers_along _ _ _ _ b s h both in
    record {
      shape =
          subst (λ (x : Joined). JoinedShape (front_list x.front) x.after x.count) (sym c.in_ok-joined.ensures.ok)
          (record {
            some = omega arith;
            list = c.requires.list;
            counted = omega (arith, c.child_count-count.ensures);
          });
      bounded = subst (λ (x : Joined). Bounded (list_term (front_list x.front ++ children x.after)) b)
          (sym c.in_ok-joined.ensures.ok) (joined_bounded us t b c.requires.list whole);
    }
