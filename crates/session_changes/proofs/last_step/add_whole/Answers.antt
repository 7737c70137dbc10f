use Rattle.std.proofs.Common.{◌≡◌, true, false, [], ◌∷◌, subst, sym, option_copied}
use Rattle.std.proofs.lemmas.Result.{on_ok_weaker}
use Rattle.change_log.specs.Reading.{whole_entry}
use Rattle.session_changes.specs.inside.Lined.{AddsLines}
use Rattle.session_changes.proofs.EntryTold.{one_told}
use Rattle.session_changes.proofs.SlotTold.{fitting_slots}
use Rattle.session_changes.proofs.last_step.add_whole.Goals as goal

pub returns : goal.returns
returns c =
    on_ok_weaker c.add_named.result
    (subst (λ l. AddsLines l c.args.lines.now c.add_named.new.lines)
    (sym (one_told (option_copied c.args.name) c.args.store.now c.names_are_distinct.ensures.trees
    c.names_are_distinct.ensures.modules c.in-Some.label.now (whole_entry c.args.whole.now) c.in-Some.ensures.named
    c.requires))) c.add_named.ensures

pub unreachable-requires : goal.unreachable-requires
unreachable-requires c =
    let slots = fitting_slots (whole_entry c.args.whole.now ∷ []) c.args.store.now c.requires in
    let never : false ≡ true = c.in_default.ensures.there slots.0 in
    cc
