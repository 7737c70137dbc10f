use Rattle.std.proofs.Common.{◌≡◌, sym, ap, ◌∙◌, length, arith}
use Rattle.std.proofs.lemmas.Option.{slice_get_read, slice_get_past}
use Rattle.term_core.specs.Tree.{children}
use Rattle.term_core.proofs.TermLemmas.{children-node_term}
use Rattle.term_core.proofs.term.Term.child.Goals as goal

pub returns-then-i-child_count : goal.returns-then-i-child_count
returns-then-i-child_count c =
    let same : children c.args.self.now ≡ c.self.inside.children.items = ap children (sym c.self.view_is)
    ∙ children-node_term c.self.inside.node c.self.inside.children.items c.self.inside.annotations.items
    c.self.invariant in
    rw same (sym (slice_get_read c.self.inside.children.items c.child_count.result c.args.i c.index.result.now
    (c.child_count.ensures ∙ ap length same) c.if-i-child_count.true c.index.ensures))

pub returns-else-i-child_count : goal.returns-else-i-child_count
returns-else-i-child_count c = sym (slice_get_past (children c.args.self.now) c.args.i
    (omega (arith, c.child_count.ensures, c.if-i-child_count.false)))
