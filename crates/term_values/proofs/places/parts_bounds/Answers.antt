use Rattle.std.proofs.Common.{◌≡◌, List, [], ◌∷◌, ◌++◌, map, take, ap, sym, subst, arith, ◌∙◌}
use Rattle.std.proofs.lemmas.List.{take_all}
use Rattle.term_core.specs.Tree.{Tree, of_list}
use Rattle.term_core.specs.Size.{height, heights, size, sizes}
use Rattle.term_changes.specs.Standing.{standing_tree}
use Rattle.term_values.specs.inside.Bounded.{AllBounded}
use Rattle.term_values.proofs.SizeLemmas.{all_bounded_more}
use Rattle.term_values.proofs.PlaceLemmas.{trees_more}
use Rattle.term_values.proofs.places.parts_bounds.Goals as goal

pub returns-then-parts-eq2 : goal.returns-then-parts-eq2
returns-then-parts-eq2 c =
    let ps = c.args.parts.now in
    let p = c.index-parts-0.result in
    let q = c.index-parts-1.result in
    let v = standing_tree p in
    let w = standing_tree q in
    let one = all_bounded_more [] v c.and-first.result
    (c.and-first.ensures.covers 0 0 (size v) (height v) c.of_none.ensures.covers c.bounds.ensures) in
    let two = all_bounded_more (v ∷ []) w c.and.result
    (c.and.ensures.covers (sizes (of_list (v ∷ []))) (heights (of_list (v ∷ []))) (size w) (height w) one
    c.bounds-then-parts-eq2.ensures) in
    let first : map standing_tree (take 1 ps) ≡ v ∷ [] =
    trees_more ps 0 p (omega (arith, c.if-parts-eq2.true)) c.index-parts-0.is in
    let both : map standing_tree ps ≡ v ∷ w ∷ [] =
    ap (map standing_tree) (sym (take_all 2 ps (omega (arith, c.if-parts-eq2.true))))
    ∙ trees_more ps 1 q (omega (arith, c.if-parts-eq2.true)) c.index-parts-1.is
    ∙ ap (λ (us : List Tree). us ++ w ∷ []) first in
    subst (λ (us : List Tree). AllBounded us c.and.result) (sym both) two
