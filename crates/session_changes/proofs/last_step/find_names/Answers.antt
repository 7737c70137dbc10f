use Rattle.std.proofs.Common.{◌≡◌, ◌++◌, ◌∷◌, true, false, ap, sym, subst, ◌∙◌, append-nil}
use Rattle.change_log.specs.Reading.{held_entry}
use Rattle.session_changes.specs.declared.last_step.NamedEntry.{NamedEntry}
use Rattle.session_changes.specs.inside.NamedPairs.{pairs_of}
use Rattle.session_changes.specs.inside.Told.{those, AllAs, HaveSlots, IsNamed}
use Rattle.session_changes.proofs.NamedTold.{found_more, named_more}
use Rattle.session_changes.proofs.SlotTold.{fitting_slots}
use Rattle.session_changes.proofs.last_step.find_names.Goals as goal

pub loop-held-init : goal.loop-held-init
loop-held-init c =
    let s = c.args.store.now in
    record {
      log = ap (λ xs. those (pairs_of xs) ++ c.entries-rest.result) c.new-found.ensures.items ∙ c.entries-rest.ensures;
      names = subst (λ xs. AllAs (IsNamed s) (pairs_of xs)) (sym c.new-found.ensures.items) tt;
      slots = subst (HaveSlots s) (sym c.entries-rest.ensures) (fitting_slots c.args.log.now s c.requires);
    }

pub unreachable-requires : goal.unreachable-requires
unreachable-requires c =
    let slots : HaveSlots c.args.store.now (held_entry c.in-Some.held ∷ c.next.new.self) =
    subst (HaveSlots c.args.store.now) c.in-Some.ensures c.loop-held.invariant.slots in
    let never : false ≡ true = c.in_default-name_of.ensures.there slots.0 in
    cc

pub loop-held-preserved : goal.loop-held-preserved
loop-held-preserved c =
    let s = c.args.store.now in
    let x : NamedEntry = record { name = c.in-Some-name_of.name; held = c.in-Some.held } in
    let items = c.in_ok-push.ensures.items in
    let slots : HaveSlots s (held_entry c.in-Some.held ∷ c.next.new.self) =
    subst (HaveSlots s) c.in-Some.ensures c.loop-held.invariant.slots in
    record {
      log =
          ap (λ xs. those (pairs_of xs) ++ c.next.new.self) items
          ∙ found_more c.loop-held.found.items x c.loop-held.rest c.next.new.self c.args.log.now
          c.loop-held.invariant.log c.in-Some.ensures;
      names =
          subst (λ xs. AllAs (IsNamed s) (pairs_of xs)) (sym items)
          (named_more (IsNamed s) c.loop-held.found.items x c.loop-held.invariant.names
          c.in-Some-name_of.ensures.named);
      slots = slots.1;
    }

pub returns-clause-log : goal.returns-clause-log
returns-clause-log c =
    let told = those (pairs_of c.loop-held.found.items) in
    sym (append-nil told) ∙ ap (λ rest. told ++ rest) (sym c.in_default.ensures) ∙ c.loop-held.invariant.log
