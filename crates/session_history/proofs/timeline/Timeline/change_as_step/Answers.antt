use Rattle.std.proofs.Common.{refl, ap, ◌∙◌, ◌++◌, ◌∷◌, [], take}
use Rattle.term_changes.specs.Entries.{found}
use Rattle.session_history.specs.inside.View.{logged}
use Rattle.session_history.proofs.PlaceLemmas.{adds_one, adds_alone, many_placed, many_changes, puts}
use Rattle.session_history.proofs.timeline.Timeline.change_as_step.Goals as goal

pub returns-clause-ok : goal.returns-clause-ok
returns-clause-ok c = rw (← c.self.view_is) (
    let t = logged c.self.inside in
    puts t _ c.args.entry c.in_ok-step.ensures.store (many_changes t c.make.new.store c.add.new.logs.items
    c.in_ok-step.step [] (rw (← c.self.view_is) at c.requires.outside) refl
    (adds_one c.args.entry t.store c.make.new.store [] c.in_ok-step.step (rw (← c.self.view_is) at c.requires.place)
    c.in_ok-step.ensures.store c.in_ok-step.ensures.step)
    (adds_alone (take t.position t.logs) c.add.new.logs.items c.in_ok-step.step (found c.args.entry t.store)
    (c.add.ensures.logs ∙ ap (λ l. take t.position l ++ c.in_ok-step.step ∷ []) c.in_ok-reserve.ensures.items)
    c.in_ok-step.ensures.step)
    _ c.add.ensures.position c.self.invariant))

pub invariant_of-self-2 : goal.invariant_of-self-2
invariant_of-self-2 c =
    let t = logged c.self.inside in
    many_placed t c.make.new.store c.add.new.logs.items c.in_ok-step.step []
    (rw (← c.self.view_is) at c.requires.outside) refl
    (adds_one c.args.entry t.store c.make.new.store [] c.in_ok-step.step (rw (← c.self.view_is) at c.requires.place)
    c.in_ok-step.ensures.store c.in_ok-step.ensures.step)
    (adds_alone (take t.position t.logs) c.add.new.logs.items c.in_ok-step.step (found c.args.entry t.store)
    (c.add.ensures.logs ∙ ap (λ l. take t.position l ++ c.in_ok-step.step ∷ []) c.in_ok-reserve.ensures.items)
    c.in_ok-step.ensures.step)
    _ c.add.ensures.position c.self.invariant
