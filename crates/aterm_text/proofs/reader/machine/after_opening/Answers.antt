use Rattle.std.proofs.Common.{sym, ◌∙◌}
use Rattle.aterm_text.proofs.GoesLemmas.{leads-closing, leads-entered, lost-entered, on_ok}
use Rattle.aterm_text.proofs.reader.machine.after_opening.Goals as goal

pub returns-in_ok-close-in-Some-after_byte-clause-leads : goal.returns-in_ok-close-in-Some-after_byte-clause-leads
returns-in_ok-close-in-Some-after_byte-clause-leads c =
    leads-closing _ c.in-Some.closing _ (sym c.in-Some.ensures) _ _ _ (c.requires ∙ c.in-Some-after_byte.ensures.some)
    c.in_ok-close-in-Some-after_byte.ensures.closed c.in-Some-after_byte.ensures.shorter

pub returns-in-None-clause-leads : goal.returns-in-None-clause-leads
returns-in-None-clause-leads c =
    on_ok c.expect_term.result _ _ (λ step leads. leads-entered _ c.in-Some.closing _ (sym c.in-Some.ensures) _ step
    (λ y next. c.in-None.ensures.none y (sym c.requires ∙ next)) leads)
    c.expect_term.ensures.leads

pub returns-in-None-clause-none : goal.returns-in-None-clause-none
returns-in-None-clause-none c = λ e. lost-entered _ c.in-Some.closing _ (sym c.in-Some.ensures)
    (λ y next. c.in-None.ensures.none y (sym c.requires ∙ next)) (c.expect_term.ensures.none e)
