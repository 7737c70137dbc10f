use Rattle.std.proofs.Common.{refl, subst, true}
use Rattle.script_text.specs.CommandView.{form}
use Rattle.script_text.specs.declared.command.Budgets.{Budgets}
use Rattle.script_text.specs.KeywordView.{form_after, is_without_memory_after}
use Rattle.script_core.specs.inside.Performing.{ReplyToForm, ToldRight}
use Rattle.script_core.proofs.AnswerLemmas.{formed, unformed, refusal_told}
use Rattle.script_core.proofs.answer.answer_form.Goals as goal

pub returns-in-Ok-perform : goal.returns-in-Ok-perform
returns-in-Ok-perform g c =
    subst (λ (b : Budgets).
    ToldRight (ReplyToForm g.M.Meaning.meaning (form_after c.args.keyword b c.args.rest.now) c.args.session.now)
    (is_without_memory_after c.args.keyword) c.args.session.now c.perform.new.session c.perform.new.answer true)
    c.budgets_of-budgets.ensures
    (formed g.M.Meaning.meaning (form_after c.args.keyword c.budgets_of-budgets.result c.args.rest.now)
    (form c.in-Ok.read) (is_without_memory_after c.args.keyword) _ c.args.session.now c.perform.new.session
    c.perform.new.answer c.in-Ok.ensures.ok c.in-Ok.ensures.without_memory c.in-Ok-perform.ensures).ok

pub returns-in-Ok : goal.returns-in-Ok
returns-in-Ok g c =
    let p = formed g.M.Meaning.meaning (form_after c.args.keyword c.budgets_of-budgets.result c.args.rest.now)
    (form c.in-Ok.read) (is_without_memory_after c.args.keyword) _ c.args.session.now c.perform.new.session
    c.perform.new.answer c.in-Ok.ensures.ok c.in-Ok.ensures.without_memory c.in-Err-perform.ensures in
    subst (λ (b : Budgets).
    ToldRight (ReplyToForm g.M.Meaning.meaning (form_after c.args.keyword b c.args.rest.now) c.args.session.now)
    (is_without_memory_after c.args.keyword) c.args.session.now c.perform.new.session c.refuse.new.answer
    c.refuse.result) c.budgets_of-budgets.ensures (
    refusal_told (ReplyToForm g.M.Meaning.meaning
    (form_after c.args.keyword c.budgets_of-budgets.result c.args.rest.now) c.args.session.now)
    (is_without_memory_after c.args.keyword) c.in-Err-perform.refusal c.args.session.now c.perform.new.session
    c.refuse.new.answer c.refuse.result p.refused p.err c.refuse.ensures.told c.refuse.ensures.refused)

pub returns : goal.returns
returns g c =
    subst (λ (b : Budgets).
    ToldRight (ReplyToForm g.M.Meaning.meaning (form_after c.args.keyword b c.args.rest.now) c.args.session.now)
    (is_without_memory_after c.args.keyword) c.args.session.now c.args.session.now c.refuse-in-Err.new.answer
    c.refuse-in-Err.result) c.budgets_of-budgets.ensures (
    refusal_told
    (ReplyToForm g.M.Meaning.meaning (form_after c.args.keyword c.budgets_of-budgets.result c.args.rest.now)
    c.args.session.now) (is_without_memory_after c.args.keyword) c.in-Err.refusal c.args.session.now c.args.session.now
    c.refuse-in-Err.new.answer c.refuse-in-Err.result
    (unformed g.M.Meaning.meaning (form_after c.args.keyword c.budgets_of-budgets.result c.args.rest.now) _
    c.in-Err.refusal c.args.session.now c.in-Err.ensures.refused) refl c.refuse-in-Err.ensures.told
    c.refuse-in-Err.ensures.refused)
