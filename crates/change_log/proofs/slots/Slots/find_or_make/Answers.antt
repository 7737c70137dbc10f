use Rattle.std.proofs.Common.{◌∙◌, sym, ap, Some}
use Rattle.term_changes.specs.Slots.{slot_of}
use Rattle.term_changes.proofs.SlotLemmas.{slot_stays, slot_made}
use Rattle.change_log.proofs.slots.Slots.find_or_make.Goals as goal

pub returns-in-Some-clause-ok : goal.returns-in-Some-clause-ok
returns-in-Some-clause-ok g c = sym c.self.view_is ∙
    (slot_stays c.args.self.now c.self.inside.slots.entries c.args.name.now _ c.self.view_is c.in-Some.ensures.index).0

pub returns-in-Some-clause-slot : goal.returns-in-Some-clause-slot
returns-in-Some-clause-slot g c = ap (λ l. slot_of l c.args.name.now) (sym c.self.view_is) ∙
    (slot_stays c.args.self.now c.self.inside.slots.entries c.args.name.now _ c.self.view_is c.in-Some.ensures.index).1

pub returns-clause-ok : goal.returns-clause-ok
returns-clause-ok g c =
    (slot_made c.args.self.now c.self.inside.slots.entries c.insert.new.self.entries c.args.name.now _ c.self.view_is
    c.in_default.ensures.index c.in_ok-name.ensures c.in_ok-insert.ensures.entries).0

pub returns-clause-slot : goal.returns-clause-slot
returns-clause-slot g c =
    (slot_made c.args.self.now c.self.inside.slots.entries c.insert.new.self.entries c.args.name.now _ c.self.view_is
    c.in_default.ensures.index c.in_ok-name.ensures c.in_ok-insert.ensures.entries).1
    ∙ ap Some (sym c.len-i.ensures.len)
