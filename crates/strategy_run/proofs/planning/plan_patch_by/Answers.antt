use Rattle.std.proofs.Common.{sym, subst}
use Rattle.term_changes.specs.Standing.{unchanged}
use Rattle.strategy_meaning.specs.Meaning.{run_whole}
use Rattle.strategy_machine.specs.Turns.{world_of, state_of}
use Rattle.strategy_run.specs.Planning.{Gives}
use Rattle.strategy_run.specs.inside.Runs.{Ends}
use Rattle.strategy_run.specs.declared.ended.Ended.{Ended}
use Rattle.strategy_run.proofs.PlanLemmas.{part_gives}
use Rattle.strategy_run.proofs.planning.plan_patch_by.Goals as goal

pub returns-in_ok-patch-in-Done : goal.returns-in_ok-patch-in-Done
returns-in_ok-patch-in-Done g c =
    let m = c.run_to_end.new.m in
    let whole = run_whole
    (world_of g.M.Meaning.meaning c.args.host.now.definitions.now c.args.host.now.primitives.now c.args.host.now.room)
    c.args.m.now.level c.args.strategy.now c.args.m.now.steps c.args.term.now in
    let d =
    subst (λ (e : Ended (Unit {0})). Ends (unchanged c.args.term.now) m e whole) c.in-Done.is c.in_ok-ended.ensures in
    subst (λ ps. Gives c.args.term.now c.args.m.now.steps whole ps c.saturating_sub-taken.result)
    (sym c.in_ok-patch-in-Done.ensures.all)
    (part_gives c.args.term.now c.args.m.now.steps whole (state_of m) m.part c.saturating_sub-taken.result d
    c.saturating_sub-taken.ensures)
