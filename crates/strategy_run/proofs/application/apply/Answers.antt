use Rattle.std.proofs.Common.{◌≡◌, ◌∙◌, List, Some, refl, sym, ap, subst}
use Rattle.std.specs.Prelude.{option_copied}
use Rattle.term_changes.specs.Slots.{content}
use Rattle.term_changes.specs.Entries.{Entry}
use Rattle.strategy_meaning.specs.Applied.{applied}
use Rattle.strategy_machine.specs.Turns.{world_of}
use Rattle.strategy_run.specs.inside.Finding.{Finds, FindsAll}
use Rattle.strategy_run.specs.Applies.{applied_in}
use Rattle.strategy_run.specs.declared.ended.Ended.{Ended}
use Rattle.strategy_run.proofs.ApplyLemmas.{puts, in_tree, in_none, low_there}
use Rattle.strategy_run.proofs.application.apply.Goals as goal

pub returns-in_default-clause-applies : goal.returns-in_default-clause-applies
returns-in_default-clause-applies g c = (
  in_none (world_of g.M.Meaning.meaning c.args.program.now.bodies c.args.primitives.now c.args.room) c.args.store.now
      c.args.slot c.args.path.now c.args.strategy.now c.args.steps
      (sym c.tree.ensures ∙ ap (λ o. option_copied o) c.in_default.is),
  record { store = refl; log = refl },
)

pub returns-in-Failed-clause-applies : goal.returns-in-Failed-clause-applies
returns-in-Failed-clause-applies g c =
    let there : content c.args.store.now.trees c.args.slot ≡ Some c.in-Some.tree.now = sym c.tree.ensures
    ∙ ap (λ o. option_copied o) c.in-Some.is in
    let into = in_tree (world_of g.M.Meaning.meaning c.args.program.now.bodies c.args.primitives.now c.args.room)
    c.args.store.now c.args.slot c.args.path.now c.args.strategy.now c.args.steps c.in-Some.tree.now there in
    let found = subst (λ bodies. Finds c.args.store.now c.args.slot
    (applied (world_of g.M.Meaning.meaning bodies c.args.primitives.now c.args.room) c.args.path.now c.args.strategy.now
    c.args.steps c.in-Some.tree.now) c.in_ok-found.found)
    c.definitions.ensures (c.in_ok-found.ensures c.args.store.now there) in (
      into ∙ (subst (λ (f : Ended (List Entry)). Finds c.args.store.now c.args.slot
          (applied (world_of g.M.Meaning.meaning c.args.program.now.bodies c.args.primitives.now c.args.room)
          c.args.path.now c.args.strategy.now c.args.steps c.in-Some.tree.now) f) c.in-Failed.is found),
      record { store = refl; log = refl },
    )

pub returns-in-Spent-clause-applies : goal.returns-in-Spent-clause-applies
returns-in-Spent-clause-applies g c =
    let there : content c.args.store.now.trees c.args.slot ≡ Some c.in-Some.tree.now = sym c.tree.ensures
    ∙ ap (λ o. option_copied o) c.in-Some.is in
    let into = in_tree (world_of g.M.Meaning.meaning c.args.program.now.bodies c.args.primitives.now c.args.room)
    c.args.store.now c.args.slot c.args.path.now c.args.strategy.now c.args.steps c.in-Some.tree.now there in
    let found = subst (λ bodies. Finds c.args.store.now c.args.slot
    (applied (world_of g.M.Meaning.meaning bodies c.args.primitives.now c.args.room) c.args.path.now c.args.strategy.now
    c.args.steps c.in-Some.tree.now) c.in_ok-found.found)
    c.definitions.ensures (c.in_ok-found.ensures c.args.store.now there) in (
      into ∙ (subst (λ (f : Ended (List Entry)). Finds c.args.store.now c.args.slot
          (applied (world_of g.M.Meaning.meaning c.args.program.now.bodies c.args.primitives.now c.args.room)
          c.args.path.now c.args.strategy.now c.args.steps c.in-Some.tree.now) f) c.in-Spent.is found),
      record { store = refl; log = refl },
    )

pub returns-in-Big-clause-applies : goal.returns-in-Big-clause-applies
returns-in-Big-clause-applies g c =
    let there : content c.args.store.now.trees c.args.slot ≡ Some c.in-Some.tree.now = sym c.tree.ensures
    ∙ ap (λ o. option_copied o) c.in-Some.is in
    let into = in_tree (world_of g.M.Meaning.meaning c.args.program.now.bodies c.args.primitives.now c.args.room)
    c.args.store.now c.args.slot c.args.path.now c.args.strategy.now c.args.steps c.in-Some.tree.now there in
    let found = subst (λ bodies. Finds c.args.store.now c.args.slot
    (applied (world_of g.M.Meaning.meaning bodies c.args.primitives.now c.args.room) c.args.path.now c.args.strategy.now
    c.args.steps c.in-Some.tree.now) c.in_ok-found.found)
    c.definitions.ensures (c.in_ok-found.ensures c.args.store.now there) in (
      into ∙ (subst (λ (f : Ended (List Entry)). Finds c.args.store.now c.args.slot
          (applied (world_of g.M.Meaning.meaning c.args.program.now.bodies c.args.primitives.now c.args.room)
          c.args.path.now c.args.strategy.now c.args.steps c.in-Some.tree.now) f) c.in-Big.is found),
      record { store = refl; log = refl },
    )

pub plan_edits-requires : goal.plan_edits-requires
plan_edits-requires g c =
    let there : content c.args.store.now.trees c.args.slot ≡ Some c.in-Some.tree.now = sym c.tree.ensures
    ∙ ap (λ o. option_copied o) c.in-Some.is in
    record {
      room = c.requires.room;
      low = low_there c.args.store.now c.args.slot c.args.path.now c.in-Some.tree.now there c.requires.low;
    }

pub returns-in_ok-put_in_place-in-Done-clause-applies : goal.returns-in_ok-put_in_place-in-Done-clause-applies
returns-in_ok-put_in_place-in-Done-clause-applies g c =
    let there : content c.args.store.now.trees c.args.slot ≡ Some c.in-Some.tree.now = sym c.tree.ensures
    ∙ ap (λ o. option_copied o) c.in-Some.is in
    let into = in_tree (world_of g.M.Meaning.meaning c.args.program.now.bodies c.args.primitives.now c.args.room)
    c.args.store.now c.args.slot c.args.path.now c.args.strategy.now c.args.steps c.in-Some.tree.now there in
    let found = subst (λ bodies. Finds c.args.store.now c.args.slot
    (applied (world_of g.M.Meaning.meaning bodies c.args.primitives.now c.args.room) c.args.path.now c.args.strategy.now
    c.args.steps c.in-Some.tree.now) c.in_ok-found.found)
    c.definitions.ensures (c.in_ok-found.ensures c.args.store.now there) in
    let f = subst (λ (f : Ended (List Entry)). Finds c.args.store.now c.args.slot
    (applied (world_of g.M.Meaning.meaning c.args.program.now.bodies c.args.primitives.now c.args.room) c.args.path.now
    c.args.strategy.now c.args.steps c.in-Some.tree.now) f) c.in-Done.is found in
    puts (applied_in (world_of g.M.Meaning.meaning c.args.program.now.bodies c.args.primitives.now c.args.room)
    c.args.store.now.trees c.args.slot c.args.path.now c.args.strategy.now c.args.steps) c.in-Done.plan c.args.slot
    c.args.store.now c.put_in_place.new.store c.args.log.now c.put_in_place.new.log
    (subst (λ w. FindsAll c.args.store.now c.args.slot w c.in-Done.plan) (sym into) f)
    c.in_ok-put_in_place-in-Done.ensures.store c.in_ok-put_in_place-in-Done.ensures.log
    c.in_ok-put_in_place-in-Done.ensures.leads_back c.in_ok-put_in_place-in-Done.ensures.fits
