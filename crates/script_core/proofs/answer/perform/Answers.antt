use Rattle.std.proofs.Common.{ℕ, List, [], Option, OnOk, subst}
use Rattle.session_history.specs.Acts.{apply, undo, redo}
use Rattle.session_history.specs.Differences.{TellsChanges}
use Rattle.script_core.proofs.AnswerLemmas.{acts, acts_surely, told_ok, told_changes}
use Rattle.script_core.proofs.answer.perform.Goals as goal

pub returns-in-Apply : goal.returns-in-Apply
returns-in-Apply g c =
    rw c.in-Apply.is (told_ok _ _ _ _ _ _ _
    (acts (apply g.M.Meaning.meaning c.in-Apply.name c.in-Apply.path c.in-Apply.budget c.in-Apply.text.now)
    c.apply.result c.args.session.now c.apply.new.self c.apply.ensures)
    c.say_ok-in-Apply.ensures.same c.say_ok-in-Apply.ensures.ok)

pub returns-in-Undo : goal.returns-in-Undo
returns-in-Undo g c =
    rw c.in-Undo.is (told_ok _ _ _ _ _ _ _ (acts_surely (undo c.in-Undo.n) c.undo.result c.args.session.now
    c.undo.new.self c.undo.ensures) c.say_ok-in-Undo.ensures.same c.say_ok-in-Undo.ensures.ok)

pub returns-in-Redo : goal.returns-in-Redo
returns-in-Redo g c =
    rw c.in-Redo.is (told_ok _ _ _ _ _ _ _ (acts_surely (redo c.in-Redo.n) c.redo.result c.args.session.now
    c.redo.new.self c.redo.ensures) c.say_ok-in-Redo.ensures.same c.say_ok-in-Redo.ensures.ok)

pub returns-in-Diff : goal.returns-in-Diff
returns-in-Diff g c =
    let told = subst (λ (name : Option (List ℕ)). OnOk c.write_diff.result
    (TellsChanges name c.args.session.now [] c.write_diff.new.self)) c.as_ref.ensures.value c.write_diff.ensures.ok in
    rw c.in-Diff.is (told_changes g.M.Meaning.meaning c.in-Diff.name c.write_diff.result c.args.session.now
    c.write_diff.new.session c.write_diff.new.self c.write_diff.ensures.same told c.write_diff.ensures.refused)
