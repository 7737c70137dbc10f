use Rattle.std.proofs.Common.{ap, Err}
use Rattle.aterm_text.specs.Grammar.{Spells}
use Rattle.session_history.specs.Acts.{set_tree, ComesTo}
use Rattle.script_text.specs.Replies.{ReadAs}
use Rattle.script_core.proofs.AnswerLemmas.{read_refused, read_well, refuses, unread, told_given, acts, PerformedRight-by}
use Rattle.script_core.proofs.answer.set_tree.Goals as goal

pub returns-in-Err : goal.returns-in-Err
returns-in-Err g c =
    let told = c.in-Err.ensures in
    refuses _ _ _ _ _
    (unread (ReadAs Spells c.args.text.now) (λ t. ComesTo (set_tree c.args.name.now t) c.args.session.now)
    c.read_refusal.result
    (rw c.read_refusal.ensures (read_refused Spells c.args.text.now c.in-Err.fault (λ e. told.deep.0 (ap Err e))
    (λ deep. let e = told.deep.1 deep in cc) (λ e. told.no_term (ap Err e)))))

pub returns-in-Ok : goal.returns-in-Ok
returns-in-Ok g c =
    let told = c.in-Ok.ensures in
    let gives =
    read_well Spells c.args.text.now c.in-Ok.tree (λ deep. let e = told.deep.1 deep in absurd (cc)) told.spelled in
    PerformedRight-by _ _ _ _ _ _ _ (told_given (ReadAs Spells c.args.text.now)
    (λ t. ComesTo (set_tree c.args.name.now t) c.args.session.now) c.in-Ok.tree gives)
    (acts (set_tree c.args.name.now c.in-Ok.tree) c.set_tree.result c.args.session.now c.set_tree.new.self
    c.set_tree.ensures)
