use Rattle.std.proofs.Common.{◌-◌, arith, map, ap}
use Rattle.term_core.specs.Tree.{of_list}
use Rattle.term_core.specs.Size.{heights}
use Rattle.term_changes.specs.Standing.{standing_tree}
use Rattle.term_values.specs.inside.ValueView.{parts_list}
use Rattle.term_values.proofs.PlaceLemmas.{altered_heights, part_height}
use Rattle.term_values.proofs.+draft.Goals as goal

pub part::Changed::draft-draft_children-requires : goal.part::Changed::draft-draft_children-requires
part::Changed::draft-draft_children-requires t c =
    let high = altered_heights c.self.inside.of.now (parts_list c.self.inside.parts) c.args.self.now c.self.view_is
    c.self.invariant in
    let same = ap (λ ps. heights (of_list (map standing_tree ps))) c.as_slice-parts.ensures in
    (omega (arith, high, same, c.decreases), tt)

pub patches::draft_children-draft-requires : goal.patches::draft_children-draft-requires
patches::draft_children-draft-requires t c =
    let high = part_height c.args.parts.now (c.loop-i.i - 1) c.index-parts-i.result
    (omega (arith, c.loop-i-test.true, c.loop-i.invariant.within)) c.index-parts-i.is in
    (omega (arith, high, c.decreases), tt)
