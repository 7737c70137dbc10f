use Rattle.std.proofs.Common.{◌≡◌, ◌⊎◌, Err, sym, subst}
use Rattle.strategy_check.specs.Faults.{first}
use Rattle.strategy_check.specs.Programs.{faults_of, resolved}
use Rattle.session_history.specs.Applying.{resolved_in}
use Rattle.session_modules.specs.declared.refusal.Refusal.{Refusal}
use Rattle.session_modules.specs.declared.refusal.Refusal.TheVariants.{Memory}
use Rattle.session_core.proofs.ResolveLemmas.{told_resolved}
use Rattle.session_core.proofs.resolving.resolve_strategy.Goals as goal

pub returns-in-Err-clause-refused : goal.returns-in-Err-clause-refused
returns-in-Err-clause-refused g c =
    let program = c.args.program.now in
    let ps = c.args.primitives.now in
    let s = c.args.strategy.now in
    subst (λ (refusal : Refusal). (refusal ≡ Memory) ⊎ (resolved_in program ps s ≡ Err refusal)) (sym c.from.ensures)
    (told_resolved c.in-Err.fault (first (faults_of program ps s)) (resolved program ps s) c.in-Err.ensures.fault)
