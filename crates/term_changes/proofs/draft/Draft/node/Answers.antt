use Rattle.std.proofs.Common.{◌-◌, length, ap, arith}
use Rattle.term_changes.specs.declared.draft.PlaceMark.{PlaceMark}
use Rattle.term_changes.proofs.DraftLemmas.{node_whole}
use Rattle.term_changes.proofs.draft.Draft.node.Goals as goal

pub invariant_of-self-2 : goal.invariant_of-self-2
invariant_of-self-2 c =
    let ms = c.self.inside.marks.items in
    let x : PlaceMark = record { skipped = 0; kids = c.args.kids } in
    node_whole ms c.push.new.self.items x c.in_ok-push.ensures.items (c.args.kids - 1) (omega (arith, c.requires.some))
    c.self.inside.terms.items c.self.invariant
    (omega (arith, c.requires.there, ap length c.self.view_is))
