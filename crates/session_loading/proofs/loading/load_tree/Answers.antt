use Rattle.std.proofs.Common.{ap, Err}
use Rattle.aterm_text.specs.Grammar.{Spells}
use Rattle.session_history.specs.Acts.{set_tree, ComesTo}
use Rattle.script_text.specs.Replies.{ReadAs}
use Rattle.script_core.proofs.AnswerLemmas.{read_refused, read_well}
use Rattle.session_loading.proofs.LoadingLemmas.{read_ok, read_then_refused, unread}
use Rattle.session_loading.proofs.loading.load_tree.Goals as goal

pub returns-in-Err-clause-refused : goal.returns-in-Err-clause-refused
returns-in-Err-clause-refused g c =
    let told = c.in-Err.ensures in
    unread (ReadAs Spells c.args.text.now) (λ t. ComesTo (set_tree c.args.name.now t) c.args.session.now)
    c.read_refusal.result
    (rw c.read_refusal.ensures (read_refused Spells c.args.text.now c.in-Err.fault (λ e. told.deep.0 (ap Err e))
    (λ deep. let e = told.deep.1 deep in cc) (λ e. told.no_term (ap Err e))))

pub returns-in-Ok-clause-ok : goal.returns-in-Ok-clause-ok
returns-in-Ok-clause-ok g c =
    let told = c.in-Ok.ensures in
    read_ok (ReadAs Spells c.args.text.now) (λ t. ComesTo (set_tree c.args.name.now t) c.args.session.now)
    c.set_tree.result c.in-Ok.tree c.set_tree.new.self
    (read_well Spells c.args.text.now c.in-Ok.tree (λ deep. let e = told.deep.1 deep in absurd (cc)) told.spelled)
    c.set_tree.ensures.ok

pub returns-in-Ok-clause-refused : goal.returns-in-Ok-clause-refused
returns-in-Ok-clause-refused g c =
    let told = c.in-Ok.ensures in
    read_then_refused (ReadAs Spells c.args.text.now) (λ t. ComesTo (set_tree c.args.name.now t) c.args.session.now)
    c.set_tree.result c.in-Ok.tree
    (read_well Spells c.args.text.now c.in-Ok.tree (λ deep. let e = told.deep.1 deep in absurd (cc)) told.spelled)
    c.set_tree.ensures.refused
