use Rattle.std.proofs.Common.{◌≡◌, List, IfOk, ◌∙◌, subst}
use Rattle.std.specs.List.{slice_get}
use Rattle.term_changes.specs.Standing.{Standing}
use Rattle.term_values.specs.inside.ValueView.{parts_list}
use Rattle.term_values.proofs.PlaceLemmas.{altered_parts}
use Rattle.term_values.proofs.part.Changed.part.Goals as goal

pub returns : goal.returns
returns c =
    let e = c.as_slice.ensures ∙ altered_parts c.self.inside.of.now (parts_list c.self.inside.parts) c.args.self.now
    c.self.view_is c.self.invariant in
    subst (λ (ps : List Standing). IfOk c.part_at.result (λ part. part ≡ slice_get ps c.args.i)) e c.part_at.ensures
