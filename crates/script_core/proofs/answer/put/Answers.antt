use Rattle.aterm_text.specs.Grammar.{Spells}
use Rattle.session_history.specs.Acts.{PutsAt, put, place_of}
use Rattle.script_text.specs.Replies.{ReadAs}
use Rattle.script_core.proofs.AnswerLemmas.{refuses, nowhere, unread_there, told_there, acts, PerformedRight-by}
use Rattle.script_core.proofs.answer.put.Goals as goal

pub returns-in-Err : goal.returns-in-Err
returns-in-Err g c = refuses _ _ _ _ _ (nowhere (ReadAs Spells c.args.text.now)
    (λ place x. PutsAt c.args.name.now c.args.path.now x c.args.session.now place)
    (place_of c.args.session.now.now c.args.name.now c.args.path.now) c.in-Err.refusal c.in-Err.ensures.refused)

pub returns-in-Err-read_term : goal.returns-in-Err-read_term
returns-in-Err-read_term g c =
    let there = c.in_default.ensures.found in
    refuses _ _ _ _ _ (unread_there (ReadAs Spells c.args.text.now) (λ place x. PutsAt c.args.name.now c.args.path.now x
    c.args.session.now place) (place_of c.args.session.now.now c.args.name.now c.args.path.now) _
    c.in-Err-read_term.refusal there.1 c.in-Err-read_term.ensures.refused)

pub returns-in-Ok : goal.returns-in-Ok
returns-in-Ok g c =
    let test = place_of c.args.session.now.now c.args.name.now c.args.path.now in
    PerformedRight-by _ _ _ _ _ _ _ (told_there (ReadAs Spells c.args.text.now)
    (λ place x. PutsAt c.args.name.now c.args.path.now x c.args.session.now place) test c.in-Ok.part c.in-Ok.ensures.ok)
    (acts (put c.args.name.now c.args.path.now c.in-Ok.part) c.put.result c.args.session.now c.put.new.self
    c.put.ensures)
