use Rattle.std.proofs.Common.{[], ap, sym, ◌∙◌, subst}
use Rattle.strategy_check.specs.Faults.{first, IsTold, strategy_faults}
use Rattle.strategy_check.specs.Programs.{Program, faults_of, resolved}
use Rattle.strategy_check.specs.Ranges.{IsInRange}
use Rattle.strategy_check.proofs.FaultLemmas.{told_err}
use Rattle.strategy_check.proofs.ProgramLemmas.{resolved_range}
use Rattle.strategy_check.proofs.program.resolve.Goals as goal

pub returns-clause-faultless : goal.returns-clause-faultless
returns-clause-faultless g c =
    let table = ap (λ (p : Program). p.table) c.program.view_is in
    ap (λ T. strategy_faults T c.args.primitives.now [] c.args.strategy.now) (sym table)
    ∙ c.in_ok-refuse_strategy.ensures.none

pub returns-in_err-refuse_strategy-clause-fault : goal.returns-in_err-refuse_strategy-clause-fault
returns-in_err-refuse_strategy-clause-fault g c =
    let p = c.args.program.now in
    let P = c.args.primitives.now in
    let s = c.args.strategy.now in
    let e = c.in_err-refuse_strategy.field-0.0 in
    let table = ap (λ (p : Program). p.table) c.program.view_is in
    told_err c.from_residual.result e (first (faults_of p P s)) c.from_residual.ensures
    (subst (IsTold e) (ap (λ T. first (strategy_faults T P [] s)) table) c.in_err-refuse_strategy.ensures.first)

pub returns-clause-in_range : goal.returns-clause-in_range
returns-clause-in_range g c =
    let p = c.args.program.now in
    let P = c.args.primitives.now in
    let s = c.args.strategy.now in
    let table = ap (λ (p : Program). p.table) c.program.view_is in
    subst (IsInRange p P 0 0)
    (sym (c.in_ok-whole.ensures ∙ ap (λ T. resolved (record { table = T; bodies = [] }) P s) table))
    (resolved_range p P s (returns-clause-faultless g c))
