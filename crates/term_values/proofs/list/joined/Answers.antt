use Rattle.std.proofs.Common.{◌++◌, List, length, sym, ap, subst, arith}
use Rattle.std.proofs.lemmas.List.{length-append}
use Rattle.term_core.specs.Tree.{Tree, of_list, children, list_term}
use Rattle.term_core.specs.Size.{height, heights, size, sizes}
use Rattle.term_values.specs.declared.value.Joined.{Joined}
use Rattle.term_values.specs.inside.Bounded.{Bounded, AllBounded}
use Rattle.term_values.specs.inside.Shape.{JoinedShape}
use Rattle.term_values.specs.inside.ValueView.{front_list}
use Rattle.term_values.proofs.SizeLemmas.{joined_bounded, bounded_along}
use Rattle.term_values.proofs.list.joined.Goals as goal

pub invariant_of-result : goal.invariant_of-result
invariant_of-result c =
    let b = c.before-bounds.result in
    let t = c.args.after in
    let us = front_list c.args.front in
    let mine = bounded_along _ t c.after.inside.bounds c.after.view_is c.after.invariant.bounded in
    let front = subst (λ (l : List Tree). AllBounded l c.all_bounds.result) c.as_slice.ensures c.all_bounds.ensures in
    let both = c.before-bounds.ensures (sizes (of_list us)) (heights (of_list us)) (size t) (height t) front mine in
    record {
      shape =
          subst (λ (x : Joined). JoinedShape (front_list x.front) x.after x.count) (sym c.in_ok-joined.ensures.ok)
          (record {
            some = c.requires.some;
            list = c.requires.list;
            counted =
                omega (arith, length-append us (children t), ap length c.as_slice-2.ensures, c.child_count.ensures);
          });
      bounded = subst (λ (x : Joined). Bounded (list_term (front_list x.front ++ children x.after)) b)
          (sym c.in_ok-joined.ensures.ok) (joined_bounded us t b c.requires.list both);
    }
