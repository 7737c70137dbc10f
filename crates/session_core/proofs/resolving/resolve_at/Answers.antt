use Rattle.term_changes.specs.Slots.{contents}
use Rattle.session_core.proofs.ResolveLemmas.{lent_program, current_there, unresolved_unread, unresolved_unchecked, unresolved_faulty}
use Rattle.session_core.proofs.resolving.resolve_at.Goals as goal

pub returns-in-Err-read_strategy-clause-refused : goal.returns-in-Err-read_strategy-clause-refused
returns-in-Err-read_strategy-clause-refused g c =
    unresolved_unread c.args.primitives.now c.args.timeline.now c.args.name.now c.args.path.now c.args.text.now
    c.in-Ok.place.slot c.in-Ok.ensures.there c.in-Err-read_strategy.refusal c.in-Err-read_strategy.ensures.refused

pub returns-in-Err-check-clause-refused : goal.returns-in-Err-check-clause-refused
returns-in-Err-check-clause-refused g c =
    unresolved_unchecked c.args.primitives.now c.args.timeline.now c.args.name.now c.args.path.now c.args.text.now
    c.in-Ok.place.slot c.in-Ok.ensures.there c.in-Ok-read_strategy.strategy c.in-Ok-read_strategy.ensures.ok
    c.in-Err-check.refusal c.requires.formed.1 (rw c.store.ensures at c.in-Err-check.ensures.refused)

pub returns-in-Err-resolved-clause-refused : goal.returns-in-Err-resolved-clause-refused
returns-in-Err-resolved-clause-refused g c =
    let ps = c.args.primitives.now in
    let gives = lent_program ps (contents c.args.timeline.now.store).modules c.check.new.self c.program.result.now
    c.program.ensures (rw c.store.ensures at c.in_default.ensures.ok) in
    unresolved_faulty ps c.args.timeline.now c.args.name.now c.args.path.now c.args.text.now c.in-Ok.place.slot
    c.in-Ok.ensures.there c.in-Ok-read_strategy.strategy c.in-Ok-read_strategy.ensures.ok c.program.result.now gives
    c.in-Err-resolved.refusal c.in-Err-resolved.ensures.refused

pub program-requires : goal.program-requires
program-requires g c = current_there c.args.primitives.now (contents c.args.timeline.now.store).modules c.check.new.self
    (rw c.store.ensures at c.in_default.ensures.ok)
