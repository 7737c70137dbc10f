use Rattle.std.proofs.Common.{rules, ◌≡◌, sym, ◌∙◌}
use Rattle.term_core.specs.Tree.{children, tuple_term}
use Rattle.term_values.specs.Seen.{seen_tree}
use Rattle.term_order.proofs.ShapeLemmas.{node_read}
use Rattle.term_order.proofs.shape.parts.Goals as goal

pub returns-clause-some : goal.returns-clause-some
returns-clause-some c =
    let t = seen_tree c.args.table in
    let p = c.in_ok-five.five in
    let plain : t ≡ tuple_term (children t) = search rules in
    node_read t (seen_tree p.0) (seen_tree p.1) (seen_tree p.2) (seen_tree p.3) (seen_tree p.4) c.in_ok-count.count
    plain (sym c.elements.ensures ∙ c.in_ok-five.ensures) (sym c.in_ok-count.ensures)
