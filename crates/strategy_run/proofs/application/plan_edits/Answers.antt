use Rattle.std.proofs.Common.{◌≡◌, ◌∙◌, ℕ, Some, [], sym, ap, subst}
use Rattle.std.proofs.lemmas.Result.{IfOk-weaker}
use Rattle.std.specs.Prelude.{IfOk, option_copied}
use Rattle.term_paths.specs.Paths.{at}
use Rattle.change_log.specs.declared.store.Store.{Store}
use Rattle.term_changes.specs.Slots.{content}
use Rattle.strategy_meaning.specs.Applied.{applied}
use Rattle.strategy_run.specs.inside.Finding.{Finds}
use Rattle.strategy_machine.specs.Trails.{Shows}
use Rattle.strategy_machine.specs.Turns.{world_of}
use Rattle.strategy_run.proofs.ApplyLemmas.{applied_nowhere, low_part}
use Rattle.strategy_run.proofs.application.plan_edits.Goals as goal

pub returns-in_default : goal.returns-in_default
returns-in_default g c = λ s h. applied_nowhere
    (world_of g.M.Meaning.meaning c.args.host.now.definitions.now c.args.host.now.primitives.now c.args.host.now.room)
    c.args.path.now c.args.strategy.now c.args.steps c.args.tree.now
    (sym c.at.ensures ∙ ap (λ o. option_copied o) c.in_default.is)

pub plan_edits_by-requires : goal.plan_edits_by-requires
plan_edits_by-requires g c =
    let at_is : at c.args.tree.now c.args.path.now ≡ Some c.in-Some.term.now = sym c.at.ensures
    ∙ ap (λ o. option_copied o) c.in-Some.is in
    record {
      room = c.requires.room;
      empty = record {
        frames = c.new-m.ensures.frames;
        cells = c.new-m.ensures.cells;
        scopes = c.new-m.ensures.scopes;
        trail = subst (λ t. Shows t []) (sym c.new-m.ensures.trail) c.listed-trail.ensures;
      };
      level = c.new-m.ensures.level ∙ c.len.ensures;
      low = low_part c.args.path.now c.args.tree.now c.in-Some.term.now at_is c.requires.low;
    }

pub returns : goal.returns
returns g c =
    let at_is : at c.args.tree.now c.args.path.now ≡ Some c.in-Some.term.now = sym c.at.ensures
    ∙ ap (λ o. option_copied o) c.in-Some.is in
    subst (λ (n : ℕ). IfOk c.plan_edits_by.result
    (λ found. (s : Store) → content s.trees c.args.slot ≡ Some c.args.tree.now → Finds s c.args.slot
    (applied (world_of g.M.Meaning.meaning c.args.host.now.definitions.now c.args.host.now.primitives.now
    c.args.host.now.room) c.args.path.now c.args.strategy.now n c.args.tree.now) found)) c.new-m.ensures.steps
    (IfOk-weaker c.plan_edits_by.result _ _ (λ found each. λ s h. each c.args.tree.now s at_is h)
    c.plan_edits_by.ensures)
