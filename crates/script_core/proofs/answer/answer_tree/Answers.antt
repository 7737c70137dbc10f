use Rattle.std.proofs.Common.{refl, codes, false}
use Rattle.script_text.specs.KeywordView.{tree_form}
use Rattle.script_text.specs.Replies.{line}
use Rattle.script_core.specs.inside.Performing.{ReplyToForm}
use Rattle.script_core.proofs.AnswerLemmas.{formed, told}
use Rattle.script_core.proofs.answer.answer_tree.Goals as goal

pub returns-in-Ok : goal.returns-in-Ok
returns-in-Ok g c =
    let asked = tree_form c.args.rest.now in
    let p = formed g.M.Meaning.meaning asked _ false c.set_tree-outcome.result c.args.session.now
    c.set_tree-outcome.new.session (line (codes "ok")) c.in-Ok.ensures.tree refl c.set_tree-outcome.ensures in
    told (ReplyToForm g.M.Meaning.meaning asked c.args.session.now) false c.set_tree-outcome.result c.args.session.now
    c.set_tree-outcome.new.session (line (codes "ok")) c.tell.new.answer c.tell.result p
    c.tell.ensures.accepted c.tell.ensures.ok c.tell.ensures.refused
