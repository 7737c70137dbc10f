use Rattle.std.proofs.Common.{◌≡◌, List, IfOk, map, ap, sym, ◌∙◌, subst}
use Rattle.std.specs.List.{slice_get}
use Rattle.term_core.specs.Tree.{Tree}
use Rattle.term_changes.specs.Standing.{standing_tree}
use Rattle.term_changes.proofs.StandingLemmas.{altered_children}
use Rattle.term_values.specs.inside.ValueView.{parts_list}
use Rattle.term_values.proofs.part.Changed.child.Goals as goal

pub returns : goal.returns
returns c =
    let e = ap (map standing_tree) c.as_slice.ensures
    ∙ sym (altered_children c.self.inside.of.now (parts_list c.self.inside.parts) c.args.self.now c.self.view_is
    c.self.invariant) in
    subst (λ (us : List Tree). IfOk c.tree_at.result (λ tree. tree ≡ slice_get us c.args.i)) e c.tree_at.ensures
