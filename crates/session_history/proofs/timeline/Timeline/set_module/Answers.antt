use Rattle.std.proofs.Common.{Option, IsSome, sym, subst, ◌∙◌}
use Rattle.term_changes.specs.Slots.{contents}
use Rattle.session_history.proofs.ActLemmas.{keeps_itself, keeps_further, wants_in, kept_same}
use Rattle.session_history.proofs.CheckLemmas.{set_unread, set_ends, set_kept, set_inside}
use Rattle.session_history.specs.declared.timeline.OpenGroup.{OpenGroup}
use Rattle.session_history.proofs.timeline.Timeline.set_module.Goals as goal

pub returns-in_err-read-clause-performs : goal.returns-in_err-read-clause-performs
returns-in_err-read-clause-performs g c =
    set_unread _ _ _ _ _ _ c.from_residual.ensures.1 (rw c.limits-most.ensures.value at c.in_err-read.ensures.refused)

pub returns-in_err-copy-clause-performs : goal.returns-in_err-copy-clause-performs
returns-in_err-copy-clause-performs g c = wants_in _ _ _ _ _ c.from_residual-in_err-copy.ensures.1 (keeps_itself _)

pub returns-in_err-slot-clause-performs : goal.returns-in_err-slot-clause-performs
returns-in_err-slot-clause-performs g c =
    wants_in _ _ _ _ _ c.from_residual-in_err-slot.ensures.1 c.module_slot.ensures.same

pub returns-in_err-slot-clause-kept : goal.returns-in_err-slot-clause-kept
returns-in_err-slot-clause-kept g c = kept_same _ _ _ _ c.module_slot.ensures.same c.requires

pub returns-in_err-change_in_group-clause-performs : goal.returns-in_err-change_in_group-clause-performs
returns-in_err-change_in_group-clause-performs g c =
    wants_in _ _ _ _ _ c.from_residual-in_err-change_in_group.ensures.1
    (keeps_further _ _ _ c.module_slot.ensures.same c.in_err-change_in_group.ensures.err)

pub returns-in_err-change_in_group-clause-kept : goal.returns-in_err-change_in_group-clause-kept
returns-in_err-change_in_group-clause-kept g c =
    kept_same _ _ _ _ (keeps_further _ _ _ c.module_slot.ensures.same c.in_err-change_in_group.ensures.err) c.requires

pub returns-then-in_group-clause-performs : goal.returns-then-in_group-clause-performs
returns-then-in_group-clause-performs g c =
    set_inside _ _ _ _ _ _ _ c.in_ok-slot.ensures.slot c.module_slot.ensures.same c.in_ok-read.read.1.1
    (subst (λ (o : Option OpenGroup). IsSome o) c.module_slot.ensures.group
    (c.in_group.ensures.inside c.if-in_group.true))
    (rw c.limits-most.ensures.value at c.in_ok-read.ensures.reads)
    (rw (c.text.ensures, c.in_ok-copy.ensures) at c.in_ok-change_in_group.ensures.ok)

pub returns-then-in_group-clause-kept : goal.returns-then-in_group-clause-kept
returns-then-in_group-clause-kept g c = c.remember.ensures c.args.primitives.now
    (contents c.args.self.now.store).modules (contents c.change_in_group.new.self.store).modules c.requires

pub change_text-requires-clause-kept : goal.change_text-requires-clause-kept
change_text-requires-clause-kept g c = kept_same _ _ _ _ c.module_slot.ensures.same c.requires

pub returns-clause-performs : goal.returns-clause-performs
returns-clause-performs g c =
    set_ends _ _ _ _ _ _ _ c.in_ok-slot.ensures.slot c.module_slot.ensures.same c.in_ok-read.read.1.1
    (rw c.limits-most.ensures.value at c.in_ok-read.ensures.reads)
    (sym c.module_slot.ensures.group ∙ c.in_group.ensures.closed c.if-in_group.false) c.change_text.result
    c.change_text.new.cache
    (rw (c.new.ensures, c.in_ok-copy.ensures) at c.change_text.ensures.ok)
    (rw (c.new.ensures, c.in_ok-copy.ensures) at c.change_text.ensures.current)
    (rw (c.new.ensures, c.in_ok-copy.ensures) at c.change_text.ensures.refused)
    c.change_text.ensures.err

pub returns-clause-kept : goal.returns-clause-kept
returns-clause-kept g c =
    set_kept _ _ _ _ _ _ _ c.in_ok-slot.ensures.slot c.module_slot.ensures.same c.change_text.result
    c.change_text.new.cache
    (rw (c.new.ensures, c.in_ok-copy.ensures) at c.change_text.ensures.ok)
    (rw (c.new.ensures, c.in_ok-copy.ensures) at c.change_text.ensures.current) c.change_text.ensures.err
    c.change_text.ensures.kept
