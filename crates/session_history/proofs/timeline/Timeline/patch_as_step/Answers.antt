use Rattle.std.proofs.Common.{refl, ap, ◌∙◌, ◌++◌, ◌∷◌, [], take}
use Rattle.term_changes.specs.PatchLaws.{patch_entries}
use Rattle.session_history.specs.inside.View.{logged}
use Rattle.session_history.proofs.PlaceLemmas.{many_placed, many_changes}
use Rattle.session_history.proofs.PatchLemmas.{adds_many, adds_compact}
use Rattle.session_history.proofs.timeline.Timeline.patch_as_step.Goals as goal

pub invariant_of-self-2 : goal.invariant_of-self-2
invariant_of-self-2 c =
    let t = logged c.self.inside in
    let es = patch_entries c.args.slot c.args.path.items c.args.patch in
    let step = c.patched-step.result in
    many_placed t c.patched-step.new.store c.add.new.logs.items step []
    (rw (← c.self.view_is) at c.requires.outside) refl
    (adds_many es t.store c.patched-step.new.store [] step (rw (← c.self.view_is) at c.requires.places)
    c.patched-step.ensures.store c.patched-step.ensures.step)
    (adds_compact (take t.position t.logs) c.add.new.logs.items step
    (c.add.ensures.logs ∙ ap (λ l. take t.position l ++ step ∷ []) c.in_ok-reserve.ensures.items)
    c.patched-step.ensures.compact)
    _ c.add.ensures.position c.self.invariant

pub returns-clause-ok : goal.returns-clause-ok
returns-clause-ok c = rw (← c.self.view_is) (
    let t = logged c.self.inside in
    let es = patch_entries c.args.slot c.args.path.items c.args.patch in
    let step = c.patched-step.result in
    many_changes t c.patched-step.new.store c.add.new.logs.items step []
    (rw (← c.self.view_is) at c.requires.outside) refl
    (adds_many es t.store c.patched-step.new.store [] step (rw (← c.self.view_is) at c.requires.places)
    c.patched-step.ensures.store c.patched-step.ensures.step)
    (adds_compact (take t.position t.logs) c.add.new.logs.items step
    (c.add.ensures.logs ∙ ap (λ l. take t.position l ++ step ∷ []) c.in_ok-reserve.ensures.items)
    c.patched-step.ensures.compact)
    _ c.add.ensures.position c.self.invariant)
