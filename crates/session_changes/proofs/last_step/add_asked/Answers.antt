use Rattle.std.proofs.Common.{◌≡◌, true, false, refl, sym, subst, ap, ◌∙◌, option_copied}
use Rattle.std.proofs.lemmas.Result.{on_ok_weaker}
use Rattle.change_log.specs.Reading.{held_entry}
use Rattle.session_changes.specs.inside.Lined.{AddsLines}
use Rattle.session_changes.specs.inside.Told.{entry_lines}
use Rattle.session_changes.proofs.AddedLemmas.{adds_equal}
use Rattle.session_changes.proofs.EntryTold.{asked_told, unasked_told}
use Rattle.session_changes.proofs.last_step.add_asked.Goals as goal

pub returns-then-not-is_asked : goal.returns-then-not-is_asked
returns-then-not-is_asked c =
    adds_equal _ c.args.lines.now
    (unasked_told (option_copied c.args.name) c.args.it.name.now
    (entry_lines c.args.store.now c.args.it.name.now (held_entry c.args.it.held))
    (λ h. let never : false ≡ true = c.if-not-is_asked.ensures.1 h in cc))

pub returns : goal.returns
returns c =
    let n = c.args.it.name.now in
    let e = held_entry c.args.it.held in
    let s = c.args.store.now in
    on_ok_weaker c.add_held.result
    (subst (λ l. AddsLines l c.args.lines.now c.add_held.new.lines)
    (ap (λ m. entry_lines s m e) c.bytes.ensures.value
    ∙ sym (asked_told (option_copied c.args.name) n (entry_lines s n e) (c.if-not-is_asked.ensures.0 refl))))
    c.add_held.ensures
