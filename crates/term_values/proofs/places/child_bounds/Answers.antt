use Rattle.std.proofs.Common.{arith, length}
use Rattle.term_core.specs.Tree.{children}
use Rattle.term_core.specs.Size.{height, size}
use Rattle.term_values.specs.inside.ValueFalls.{size_parts}
use Rattle.term_values.proofs.SizeLemmas.{height_parts, within_all}
use Rattle.term_values.proofs.places.child_bounds.Goals as goal

pub returns : goal.returns
returns c =
    let t = c.args._term.now in
    within_all (children t) c.lower.result (length (children t)) (size t) (height t)
    (λ u p q. c.lower.ensures (size t) (height t) (size u) (height u) c.requires q)
    (omega (arith, size_parts t)) (omega (arith, height_parts t))
