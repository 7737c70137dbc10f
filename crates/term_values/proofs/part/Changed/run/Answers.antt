use Rattle.std.proofs.Common.{ap, sym, ◌∙◌, map}
use Rattle.term_changes.specs.Standing.{standing_tree}
use Rattle.term_changes.proofs.StandingLemmas.{altered_children}
use Rattle.term_values.specs.inside.ValueView.{parts_list}
use Rattle.term_values.proofs.part.Changed.run.Goals as goal

pub returns : goal.returns
returns c =
    ap (map standing_tree) c.as_slice.ensures
    ∙ sym (altered_children c.self.inside.of.now (parts_list c.self.inside.parts) c.args.self.now c.self.view_is
    c.self.invariant)
