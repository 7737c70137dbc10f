use Rattle.std.proofs.Common.{true, refl, ap, inr, sym, subst}
use Rattle.session_modules.specs.declared.refusal.Refusal.TheVariants.{Long}
use Rattle.script_text.specs.declared.keyword.Keyword.TheVariants.{Tree, Put}
use Rattle.script_text.specs.Handed.{Handed, long}
use Rattle.script_text.specs.FedRight.{handed_out}
use Rattle.script_text.specs.Replies.{budgets_in, ReplyTo}
use Rattle.script_text.specs.Answer.{Answered, ReplyInRun}
use Rattle.script_core.proofs.AnswerLemmas.{refusal_told, answered, by_form}
use Rattle.script_core.proofs.answer.answer_watched.Goals as goal

pub returns-in-Tree : goal.returns-in-Tree
returns-in-Tree g c =
    by_form g.M.Meaning.meaning c.args.budget (handed_out c.args.command) c.in-Text.text.now
    c.split_keyword-keyword.result.0 Tree c.split_keyword-keyword.result.1.now c.args.session.now
    c.answer_tree.new.session c.answer_tree.new.answer c.answer_tree.result
    (ap handed_out c.in-Text.is) (c.split_keyword-keyword.ensures.form (budgets_in c.args.session.now c.args.budget))
    c.split_keyword-keyword.ensures.without_memory c.in-Tree.is c.answer_tree.ensures

pub returns-in-Put : goal.returns-in-Put
returns-in-Put g c =
    by_form g.M.Meaning.meaning c.args.budget (handed_out c.args.command) c.in-Text.text.now
    c.split_keyword-keyword.result.0 Put c.split_keyword-keyword.result.1.now c.args.session.now
    c.answer_put.new.session c.answer_put.new.answer c.answer_put.result
    (ap handed_out c.in-Text.is) (c.split_keyword-keyword.ensures.form (budgets_in c.args.session.now c.args.budget))
    c.split_keyword-keyword.ensures.without_memory c.in-Put.is c.answer_put.ensures

pub returns-in_default : goal.returns-in_default
returns-in_default g c =
    by_form g.M.Meaning.meaning c.args.budget (handed_out c.args.command) c.in-Text.text.now
    c.split_keyword-keyword.result.0 _ c.split_keyword-keyword.result.1.now c.args.session.now c.answer_form.new.session
    c.answer_form.new.answer c.answer_form.result
    (ap handed_out c.in-Text.is) (c.split_keyword-keyword.ensures.form (budgets_in c.args.session.now c.args.budget))
    c.split_keyword-keyword.ensures.without_memory refl c.answer_form.ensures

pub returns-in-Long : goal.returns-in-Long
returns-in-Long g c =
    subst (λ (command : Handed). Answered (ReplyInRun g.M.Meaning.meaning c.args.budget) command c.args.session.now
    c.args.session.now c.refuse.new.answer c.refuse.result) (sym (ap handed_out c.in-Long.is))
    (answered g.M.Meaning.meaning c.args.budget long c.args.session.now c.args.session.now c.refuse.new.answer
    c.refuse.result
    (refusal_told (ReplyTo g.M.Meaning.meaning c.args.budget long c.args.session.now) true Long c.args.session.now
    c.args.session.now c.refuse.new.answer c.refuse.result (inr refl) refl c.refuse.ensures.told
    c.refuse.ensures.refused))
