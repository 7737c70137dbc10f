use Rattle.std.proofs.Common.{◌≡◌, ◌∙◌, ap, sym, slice_set}
use Rattle.term_core.specs.Tree.{children, with_children}
use Rattle.term_changes.specs.Standing.{fresh, standing_children, with_standing}
use Rattle.term_values.specs.inside.ValueView.{part_standing}
use Rattle.term_values.proofs.PlaceLemmas.{fresh_with}
use Rattle.term_values.proofs.part.Part.with_part.Goals as goal

pub returns-in-New : goal.returns-in-New
returns-in-New c =
    let t = c.in-New.value in
    let is : fresh t ≡ c.args.self.now = ap part_standing (sym c.in-New.is) ∙ c.self.view_is in
    c.new.ensures
    ∙ ap fresh
    (c.in_ok-with_child.ensures ∙ ap (λ u. with_children t (slice_set (children t) c.args.i u)) c.into_value.ensures)
    ∙ fresh_with t c.args.i c.args.part
    ∙ ap (λ p. with_standing p (slice_set (standing_children p) c.args.i c.args.part)) is
