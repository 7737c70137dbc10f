use Rattle.std.proofs.Common.{List, [], sym, subst}
use Rattle.term_core.specs.Tree.{Tree, of_list}
use Rattle.term_core.specs.Size.{heights, sizes}
use Rattle.term_values.specs.declared.value.Made.{Made}
use Rattle.term_values.specs.inside.Bounded.{Bounded, AllBounded}
use Rattle.term_values.specs.inside.ValueView.{items_list, top_tree, top_shape}
use Rattle.term_values.proofs.SizeLemmas.{top_bounded}
use Rattle.term_values.proofs.value.Value.made.Goals as goal

pub invariant_of-result : goal.invariant_of-result
invariant_of-result c =
    let b = c.over-bounds.result in
    let us = items_list c.args.items in
    let all = subst (λ (l : List Tree). AllBounded l c.all_bounds.result) c.as_slice.ensures c.all_bounds.ensures in
    let over = c.over-bounds.ensures.covers (sizes (of_list us)) (heights (of_list us)) all in
    record {
      shape = subst (λ (x : Made). top_shape x.top (items_list x.items)) (sym c.in_ok-made.ensures.ok) c.requires;
      bounded = subst (λ (x : Made). Bounded (top_tree x.top (items_list x.items) []) b) (sym c.in_ok-made.ensures.ok)
          (top_bounded c.args.top us b c.requires over);
    }
