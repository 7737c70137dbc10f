use Rattle.std.proofs.Common.{refl, ap, ◌∙◌, ◌++◌, ◌∷◌, [], take}
use Rattle.term_changes.specs.Entries.{slot_text, found}
use Rattle.session_history.specs.inside.View.{logged}
use Rattle.session_history.proofs.PlaceLemmas.{slot_within, adds_one, adds_alone, many_placed, many_changes, puts}
use Rattle.session_history.proofs.timeline.Timeline.change_text.Goals as goal

pub returns-clause-ok : goal.returns-clause-ok
returns-clause-ok g c = rw (← c.self.view_is) (
    let t = logged c.self.inside in
    let e = slot_text c.args.slot c.args.text in
    let place = slot_within t.store.modules c.args.name.now c.args.slot (rw (← c.self.view_is) at c.requires.slot) in
    puts t _ e c.of_text-step.ensures.store (many_changes t c.of_text-step.new.store c.add.new.logs.items
    c.of_text-step.result [] (rw (← c.self.view_is) at c.requires.outside) refl
    (adds_one e t.store c.of_text-step.new.store [] c.of_text-step.result place c.of_text-step.ensures.store
    c.of_text-step.ensures.step)
    (adds_alone (take t.position t.logs) c.add.new.logs.items c.of_text-step.result (found e t.store)
    (c.add.ensures.logs ∙ ap (λ l. take t.position l ++ c.of_text-step.result ∷ []) c.in-Ok.ensures.items)
    c.of_text-step.ensures.step)
    _ c.add.ensures.position c.self.invariant))

pub invariant_of-self-2 : goal.invariant_of-self-2
invariant_of-self-2 g c =
    let t = logged c.self.inside in
    let e = slot_text c.args.slot c.args.text in
    let place = slot_within t.store.modules c.args.name.now c.args.slot (rw (← c.self.view_is) at c.requires.slot) in
    many_placed t c.of_text-step.new.store c.add.new.logs.items c.of_text-step.result []
    (rw (← c.self.view_is) at c.requires.outside) refl
    (adds_one e t.store c.of_text-step.new.store [] c.of_text-step.result place c.of_text-step.ensures.store
    c.of_text-step.ensures.step)
    (adds_alone (take t.position t.logs) c.add.new.logs.items c.of_text-step.result (found e t.store)
    (c.add.ensures.logs ∙ ap (λ l. take t.position l ++ c.of_text-step.result ∷ []) c.in-Ok.ensures.items)
    c.of_text-step.ensures.step)
    _ c.add.ensures.position c.self.invariant
