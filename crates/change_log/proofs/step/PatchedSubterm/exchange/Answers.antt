use Rattle.std.proofs.Common.{◌∙◌, sym, ap}
use Rattle.term_changes.specs.PatchLaws.{patch_entries, patched, taken_slot}
use Rattle.term_changes.proofs.FlipLemmas.{leads_both_ways, keeps_both_ways, patches_are_compact}
use Rattle.change_log.proofs.step.PatchedSubterm.exchange.Goals as goal

pub returns-clause-back : goal.returns-clause-back
returns-clause-back c =
    let p = c.args.self.now in
    ap (patch_entries p.slot p.path.items)
    (c.exchange_patch.ensures.patch ∙ ap (λ q. taken_slot p.patch p.slot q c.args.store.now) c.deref.ensures.value)
    ∙ sym (keeps_both_ways p.patch p.slot p.path.items c.args.store.now).1

pub returns-clause-forward : goal.returns-clause-forward
returns-clause-forward c =
    let p = c.args.self.now in
    ap (patch_entries p.slot p.path.items)
    (c.exchange_patch.ensures.patch ∙ ap (λ q. taken_slot p.patch p.slot q c.args.store.now) c.deref.ensures.value)
    ∙ sym (keeps_both_ways p.patch p.slot p.path.items c.args.store.now).0

pub returns-clause-store_back : goal.returns-clause-store_back
returns-clause-store_back c =
    let p = c.args.self.now in
    c.exchange_patch.ensures.store ∙ ap (λ q. patched p.patch p.slot q c.args.store.now) c.deref.ensures.value
    ∙ sym (leads_both_ways p.patch p.slot p.path.items c.args.store.now).1

pub returns-clause-store_forward : goal.returns-clause-store_forward
returns-clause-store_forward c =
    let p = c.args.self.now in
    c.exchange_patch.ensures.store ∙ ap (λ q. patched p.patch p.slot q c.args.store.now) c.deref.ensures.value
    ∙ sym (leads_both_ways p.patch p.slot p.path.items c.args.store.now).0

pub returns-clause-compact : goal.returns-clause-compact
returns-clause-compact c =
    patches_are_compact c.args.self.now.slot c.args.self.now.path.items c.exchange_patch.new.patch
