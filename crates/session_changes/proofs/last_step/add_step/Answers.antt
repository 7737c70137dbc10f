use Rattle.std.proofs.Common.{subst, sym, option_copied, inr}
use Rattle.term_changes.specs.Entries.{Fits}
use Rattle.term_changes.specs.Compact.{IsCompact}
use Rattle.change_log.specs.Reading.{entries_of}
use Rattle.session_history.specs.Leading.{LeadsToBase}
use Rattle.session_changes.proofs.BaseLemmas.{adds_changes}
use Rattle.session_changes.proofs.last_step.add_step.Goals as goal

pub add_entries-requires-clause-fits : goal.add_entries-requires-clause-fits
add_entries-requires-clause-fits c =
    let leads = c.in-Some.ensures.base c.requires in
    subst (Fits (entries_of c.changes.result.now)) (sym c.store-store.ensures)
    (subst (λ es. Fits es c.args.timeline.now.store) (sym c.changes.ensures) leads.fits)

pub add_entries-requires-clause-compact : goal.add_entries-requires-clause-compact
add_entries-requires-clause-compact c = subst IsCompact (sym c.changes.ensures) c.in-Some.ensures.compact

pub returns-in_ok-add_entries-in-Some-clause-ok : goal.returns-in_ok-add_entries-in-Some-clause-ok
returns-in_ok-add_entries-in-Some-clause-ok c =
    adds_changes (option_copied c.args.name) c.args.timeline.now (entries_of c.changes.result.now)
    c.store-store.result.now c.args.lines.now c.add_entries.new.lines c.store-store.ensures
    (subst (λ es. LeadsToBase es c.args.timeline.now) (sym c.changes.ensures) (c.in-Some.ensures.base c.requires))
    c.in_ok-add_entries-in-Some.ensures

pub returns-in-None-clause-refused : goal.returns-in-None-clause-refused
returns-in-None-clause-refused c = inr (c.in-None.ensures.none c.requires)
