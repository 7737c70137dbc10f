use Rattle.std.proofs.Common.{◌≡◌, length, rules}
use Rattle.term_core.specs.Tree.{children, annotations}
use Rattle.term_values.proofs.SizeLemmas.{leaf_bounded}
use Rattle.term_values.proofs.value.bounds_of.Goals as goal

pub returns : goal.returns
returns c =
    let t = c.args.term.now in
    let kids : length (children t) ≡ 0 = search rules in
    let notes : length (annotations t) ≡ 0 = search rules in
    leaf_bounded t c.of_leaf.result kids notes c.of_leaf.ensures
