use Rattle.std.proofs.Common.{[], map, ap, sym, ◌∙◌, subst}
use Rattle.strategy_check.specs.Tables.{definitions_of}
use Rattle.strategy_check.specs.Faults.{faults, faults_from, first, IsTold}
use Rattle.strategy_check.specs.Programs.{joined_definition, groups}
use Rattle.strategy_check.specs.Ranges.{BodiesInRange}
use Rattle.strategy_check.proofs.FaultLemmas.{told_err}
use Rattle.strategy_check.proofs.ProgramLemmas.{bodies_in_range}
use Rattle.strategy_check.proofs.program.check.Goals as goal

pub returns-clause-faultless : goal.returns-clause-faultless
returns-clause-faultless g c =
    ap (λ T. faults_from T c.args.primitives.now [] c.args.modules.now) (sym c.in_ok-table.ensures)
    ∙ c.in_ok-refuse_modules.ensures.none

pub returns-in_err-refuse_modules-clause-fault : goal.returns-in_err-refuse_modules-clause-fault
returns-in_err-refuse_modules-clause-fault g c =
    let ms = c.args.modules.now in
    let P = c.args.primitives.now in
    let e = c.in_err-refuse_modules.field-0.0 in
    told_err c.from_residual-in_err-refuse_modules.result e (first (faults ms P))
    c.from_residual-in_err-refuse_modules.ensures
    (subst (IsTold e) (ap (λ T. first (faults_from T P [] ms)) c.in_ok-table.ensures)
    c.in_err-refuse_modules.ensures.first)

pub returns-clause-in_range : goal.returns-clause-in_range
returns-clause-in_range g c =
    let ms = c.args.modules.now in
    let P = c.args.primitives.now in
    let bodies = c.in_ok-bodies.ensures
    ∙ ap (map (joined_definition c.in_ok-table.table P)) (c.as_slice.ensures.value ∙ c.in_ok-groups.ensures)
    ∙ ap (λ T. map (joined_definition T P) (groups T (definitions_of ms))) c.in_ok-table.ensures in
    subst (λ p. BodiesInRange p P) (sym (λ i. record { table = c.in_ok-table.ensures i; bodies = bodies i }))
    (bodies_in_range ms P (returns-clause-faultless g c))
