use Rattle.std.proofs.Common.{Ok, subst}
use Rattle.std.specs.Prelude.{List, ℕ}
use Rattle.strategy_syntax.specs.Modules.{Module}
use Rattle.session_modules.specs.Modules.{ReadsAsModule}
use Rattle.session_modules.proofs.reading.NewModules.push.Goals as goal

pub returns-in_err-push-clause-reads : goal.returns-in_err-push-clause-reads
returns-in_err-push-clause-reads c = subst (λ (r : List ℕ × (List ℕ × Module)). ReadsAsModule r.0 (Ok r.1.1))
    c.into_parts-text.ensures.value c.into_parts-text.ensures.reads

pub returns-in_err-push-2-clause-reads : goal.returns-in_err-push-2-clause-reads
returns-in_err-push-2-clause-reads c = subst (λ (r : List ℕ × (List ℕ × Module)). ReadsAsModule r.0 (Ok r.1.1))
    c.into_parts-text.ensures.value c.into_parts-text.ensures.reads

pub returns-clause-reads : goal.returns-clause-reads
returns-clause-reads c = subst (λ (r : List ℕ × (List ℕ × Module)). ReadsAsModule r.0 (Ok r.1.1))
    c.into_parts-text.ensures.value c.into_parts-text.ensures.reads
