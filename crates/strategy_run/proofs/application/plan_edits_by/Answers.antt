use Rattle.std.proofs.Common.{length, subst, ap, ◌∙◌}
use Rattle.term_paths.specs.Edits.{prefixed}
use Rattle.term_changes.specs.Putting.{entries_at}
use Rattle.term_changes.specs.Standing.{unchanged}
use Rattle.strategy_meaning.specs.Meaning.{run_whole}
use Rattle.strategy_machine.specs.Turns.{world_of, state_of}
use Rattle.strategy_run.specs.inside.Runs.{Ends}
use Rattle.strategy_run.specs.declared.ended.Ended.{Ended}
use Rattle.strategy_run.proofs.ApplyLemmas.{finds, applied_there}
use Rattle.strategy_run.proofs.application.plan_edits_by.Goals as goal

pub returns-in_ok-replacements-in-Done : goal.returns-in_ok-replacements-in-Done
returns-in_ok-replacements-in-Done g c = λ tree s at_is h.
    let E = subst (λ w. Ends (unchanged c.args.term.now) c.run_to_end.new.m c.in_ok-ended.ended w)
    (λ i. run_whole (world_of g.M.Meaning.meaning c.args.host.now.definitions.now c.args.host.now.primitives.now
    c.args.host.now.room) (c.requires.level i) c.args.strategy.now c.args.m.now.steps c.args.term.now)
    c.in_ok-ended.ensures in
    let whole = run_whole
    (world_of g.M.Meaning.meaning c.args.host.now.definitions.now c.args.host.now.primitives.now c.args.host.now.room)
    (length c.args.path.now) c.args.strategy.now c.args.m.now.steps c.args.term.now in
    finds
    (world_of g.M.Meaning.meaning c.args.host.now.definitions.now c.args.host.now.primitives.now c.args.host.now.room)
    c.run_to_end.new.m.part c.args.path.now c.in_ok-replacements-in-Done.field-0 tree c.args.term.now
    c.args.strategy.now c.args.m.now.steps (state_of c.run_to_end.new.m) s c.args.slot at_is
    (subst (λ (e : Ended (Unit {0})). Ends (unchanged c.args.term.now) c.run_to_end.new.m e whole) c.in-Done.is E)
    (λ e shows. c.in_ok-replacements-in-Done.ensures e shows
    ∙ ap (λ q. entries_at c.args.slot (prefixed q e)) c.parts.ensures) h

pub returns-in-Failed : goal.returns-in-Failed
returns-in-Failed g c = λ tree s at_is h.
    let E = subst (λ w. Ends (unchanged c.args.term.now) c.run_to_end.new.m c.in_ok-ended.ended w)
    (λ i. run_whole (world_of g.M.Meaning.meaning c.args.host.now.definitions.now c.args.host.now.primitives.now
    c.args.host.now.room) (c.requires.level i) c.args.strategy.now c.args.m.now.steps c.args.term.now)
    c.in_ok-ended.ensures in
    let whole = run_whole
    (world_of g.M.Meaning.meaning c.args.host.now.definitions.now c.args.host.now.primitives.now c.args.host.now.room)
    (length c.args.path.now) c.args.strategy.now c.args.m.now.steps c.args.term.now in
    let r =
    subst (λ (e : Ended (Unit {0})). Ends (unchanged c.args.term.now) c.run_to_end.new.m e whole) c.in-Failed.is E in
    applied_there
    (world_of g.M.Meaning.meaning c.args.host.now.definitions.now c.args.host.now.primitives.now c.args.host.now.room)
    c.args.path.now c.args.strategy.now c.args.m.now.steps tree c.args.term.now _ at_is r.1

pub returns-in-Spent : goal.returns-in-Spent
returns-in-Spent g c = λ tree s at_is h.
    let E = subst (λ w. Ends (unchanged c.args.term.now) c.run_to_end.new.m c.in_ok-ended.ended w)
    (λ i. run_whole (world_of g.M.Meaning.meaning c.args.host.now.definitions.now c.args.host.now.primitives.now
    c.args.host.now.room) (c.requires.level i) c.args.strategy.now c.args.m.now.steps c.args.term.now)
    c.in_ok-ended.ensures in
    let whole = run_whole
    (world_of g.M.Meaning.meaning c.args.host.now.definitions.now c.args.host.now.primitives.now c.args.host.now.room)
    (length c.args.path.now) c.args.strategy.now c.args.m.now.steps c.args.term.now in
    applied_there
    (world_of g.M.Meaning.meaning c.args.host.now.definitions.now c.args.host.now.primitives.now c.args.host.now.room)
    c.args.path.now c.args.strategy.now c.args.m.now.steps tree c.args.term.now _ at_is
    (subst (λ (e : Ended (Unit {0})). Ends (unchanged c.args.term.now) c.run_to_end.new.m e whole) c.in-Spent.is E)

pub returns-in-Big : goal.returns-in-Big
returns-in-Big g c = λ tree s at_is h.
    let E = subst (λ w. Ends (unchanged c.args.term.now) c.run_to_end.new.m c.in_ok-ended.ended w)
    (λ i. run_whole (world_of g.M.Meaning.meaning c.args.host.now.definitions.now c.args.host.now.primitives.now
    c.args.host.now.room) (c.requires.level i) c.args.strategy.now c.args.m.now.steps c.args.term.now)
    c.in_ok-ended.ensures in
    let whole = run_whole
    (world_of g.M.Meaning.meaning c.args.host.now.definitions.now c.args.host.now.primitives.now c.args.host.now.room)
    (length c.args.path.now) c.args.strategy.now c.args.m.now.steps c.args.term.now in
    applied_there
    (world_of g.M.Meaning.meaning c.args.host.now.definitions.now c.args.host.now.primitives.now c.args.host.now.room)
    c.args.path.now c.args.strategy.now c.args.m.now.steps tree c.args.term.now _ at_is
    (subst (λ (e : Ended (Unit {0})). Ends (unchanged c.args.term.now) c.run_to_end.new.m e whole) c.in-Big.is E)
