use Rattle.aterm_text.specs.Grammar.{SpellsAnnotations}
use Rattle.session_history.specs.Acts.{AnnotatesAt, annotate, place_of}
use Rattle.script_text.specs.Replies.{ReadAs}
use Rattle.script_core.proofs.AnswerLemmas.{refuses, nowhere, unread_there, told_there, acts, PerformedRight-by}
use Rattle.script_core.proofs.answer.annotate.Goals as goal

pub returns-in-Err : goal.returns-in-Err
returns-in-Err g c = refuses _ _ _ _ _ (nowhere (ReadAs SpellsAnnotations c.args.text.now)
    (λ place x. AnnotatesAt c.args.name.now c.args.path.now x c.args.session.now place)
    (place_of c.args.session.now.now c.args.name.now c.args.path.now) c.in-Err.refusal c.in-Err.ensures.refused)

pub returns-in-Err-annotations_in : goal.returns-in-Err-annotations_in
returns-in-Err-annotations_in g c =
    let there = c.in_default.ensures.found in
    refuses _ _ _ _ _ (unread_there (ReadAs SpellsAnnotations c.args.text.now) (λ place x. AnnotatesAt c.args.name.now
    c.args.path.now x c.args.session.now place) (place_of c.args.session.now.now c.args.name.now c.args.path.now) _
    c.in-Err-annotations_in.refusal there.1 c.in-Err-annotations_in.ensures.refused)

pub returns-in-Ok : goal.returns-in-Ok
returns-in-Ok g c =
    let test = place_of c.args.session.now.now c.args.name.now c.args.path.now in
    PerformedRight-by _ _ _ _ _ _ _ (told_there (ReadAs SpellsAnnotations c.args.text.now) (λ place x. AnnotatesAt
    c.args.name.now c.args.path.now x c.args.session.now place) test c.in-Ok.annotations.items c.in-Ok.ensures.ok)
    (acts (annotate c.args.name.now c.args.path.now c.in-Ok.annotations.items) c.annotate.result c.args.session.now
    c.annotate.new.self c.annotate.ensures)
