use Rattle.std.proofs.Common.{ap, Err}
use Rattle.aterm_text.specs.Grammar.{Spells}
use Rattle.script_core.proofs.AnswerLemmas.{read_refused}
use Rattle.script_core.proofs.answer.read_term.Goals as goal

pub returns-in-Err-clause-refused : goal.returns-in-Err-clause-refused
returns-in-Err-clause-refused c =
    let told = c.in-Err.ensures in
    rw c.read_refusal.ensures (read_refused Spells c.args.text.now c.in-Err.fault (λ e. told.deep.0 (ap Err e))
    (λ deep. let e = told.deep.1 deep in cc) (λ e. told.no_term (ap Err e)))
