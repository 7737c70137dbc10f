use Rattle.std.proofs.Common.{◌≡◌, sym, ap, ◌∙◌}
use Rattle.term_core.specs.Tree.{children}
use Rattle.term_core.proofs.TermLemmas.{children-node_term, option_copied_mut-get}
use Rattle.term_core.proofs.term.Term.child_mut.Goals as goal

pub returns : goal.returns
returns c =
    let same : children c.args.self.now ≡ c.self.inside.children.items = ap children (sym c.self.view_is)
    ∙ children-node_term c.self.inside.node c.self.inside.children.items c.self.inside.annotations.items
    c.self.invariant in
    rw same (option_copied_mut-get c.get_mut.result c.self.inside.children.items _ c.args.i c.self.inside.children.ok.0
    c.get_mut.ensures.variant c.get_mut.ensures.value)
