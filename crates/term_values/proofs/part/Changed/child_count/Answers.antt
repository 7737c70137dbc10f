use Rattle.std.proofs.Common.{ap, ◌∙◌, length}
use Rattle.term_changes.proofs.StandingLemmas.{altered_count}
use Rattle.term_values.specs.inside.ValueView.{parts_list}
use Rattle.term_values.proofs.part.Changed.child_count.Goals as goal

pub returns : goal.returns
returns c =
    ap length c.as_slice.ensures
    ∙ altered_count c.self.inside.of.now (parts_list c.self.inside.parts) c.args.self.now c.self.view_is
    c.self.invariant
