use Rattle.std.proofs.Common.{arith, length}
use Rattle.term_core.specs.Tree.{children}
use Rattle.term_core.specs.Size.{height, size}
use Rattle.term_values.specs.inside.ValueFalls.{size_parts}
use Rattle.term_values.proofs.SizeLemmas.{height_parts, within_all, bounded_along}
use Rattle.term_values.proofs.value.Value.bounds_below.Goals as goal

pub returns-else-count-gt-FEW : goal.returns-else-count-gt-FEW
returns-else-count-gt-FEW c =
    let t = c.args.self.now in
    let mine = bounded_along _ t c.self.inside.bounds c.self.view_is c.self.invariant.bounded in
    within_all (children t) c.less.result (length (children t)) (size t) (height t)
    (λ u p q. c.less.ensures (size t) (height t) (size u) (height u) mine (omega (arith, p, c.requires)) q)
    (omega (arith, size_parts t)) (omega (arith, height_parts t))

pub returns-then-count-gt-FEW : goal.returns-then-count-gt-FEW
returns-then-count-gt-FEW c =
    let t = c.args.self.now in
    let mine = bounded_along _ t c.self.inside.bounds c.self.view_is c.self.invariant.bounded in
    within_all (children t) c.lower.result (length (children t)) (size t) (height t)
    (λ u p q. c.lower.ensures (size t) (height t) (size u) (height u) mine q)
    (omega (arith, size_parts t)) (omega (arith, height_parts t))
