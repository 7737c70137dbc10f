use Rattle.term_changes.specs.Slots.{contents}
use Rattle.session_history.specs.Unfolded.{HasText}
use Rattle.session_history.proofs.ActLemmas.{wants_in, kept_same}
use Rattle.session_history.proofs.CheckLemmas.{unload_ends, unload_kept, unload_inside}
use Rattle.session_history.proofs.timeline.Timeline.unload.Goals as goal

pub returns-in_err-change_in_group-clause-performs : goal.returns-in_err-change_in_group-clause-performs
returns-in_err-change_in_group-clause-performs g c =
    wants_in _ _ _ _ _ c.from_residual.ensures.1 c.in_err-change_in_group.ensures.err

pub returns-in_err-change_in_group-clause-kept : goal.returns-in_err-change_in_group-clause-kept
returns-in_err-change_in_group-clause-kept g c = kept_same _ _ _ _ c.in_err-change_in_group.ensures.err c.requires

pub returns-then-in_group-clause-performs : goal.returns-then-in_group-clause-performs
returns-then-in_group-clause-performs g c =
    let there : HasText c.args.self.now.store c.args.name.now c.in-Some.slot c.in-Some.field-0-1.now =
    rw c.store.ensures at c.in-Some.ensures.some in
    unload_inside _ _ _ _ _ _ there (c.in_group.ensures.inside c.if-in_group.true)
    (rw c.text.ensures at c.in_ok-change_in_group.ensures.ok)

pub returns-then-in_group-clause-kept : goal.returns-then-in_group-clause-kept
returns-then-in_group-clause-kept g c = c.note_change.ensures c.args.primitives.now
    (contents c.args.self.now.store).modules (contents c.change_in_group.new.self.store).modules c.requires

pub returns-clause-performs : goal.returns-clause-performs
returns-clause-performs g c =
    let there : HasText c.args.self.now.store c.args.name.now c.in-Some.slot c.in-Some.field-0-1.now =
    rw c.store.ensures at c.in-Some.ensures.some in
    unload_ends _ _ _ _ _ _ there c.change_text.result c.change_text.new.cache
    (c.in_group.ensures.closed c.if-in_group.false) c.change_text.ensures.ok c.change_text.ensures.current
    c.change_text.ensures.refused c.change_text.ensures.err

pub returns-clause-kept : goal.returns-clause-kept
returns-clause-kept g c =
    let there : HasText c.args.self.now.store c.args.name.now c.in-Some.slot c.in-Some.field-0-1.now =
    rw c.store.ensures at c.in-Some.ensures.some in
    unload_kept _ _ _ _ _ _ there c.change_text.result c.change_text.new.cache c.change_text.ensures.ok
    c.change_text.ensures.current c.change_text.ensures.err c.change_text.ensures.kept
