use Rattle.std.proofs.Common.{◌≡◌, List, IfOk, ◌∙◌, subst}
use Rattle.term_changes.specs.Standing.{Standing}
use Rattle.term_values.specs.inside.ValueView.{parts_list}
use Rattle.term_values.proofs.PlaceLemmas.{altered_parts}
use Rattle.term_values.proofs.part.Changed.all_parts.Goals as goal

pub returns : goal.returns
returns c =
    let e = c.as_slice.ensures ∙ altered_parts c.self.inside.of.now (parts_list c.self.inside.parts) c.args.self.now
    c.self.view_is c.self.invariant in
    subst (λ (ps : List Standing). IfOk c.share_parts.result (λ all. all.items ≡ ps)) e c.share_parts.ensures
