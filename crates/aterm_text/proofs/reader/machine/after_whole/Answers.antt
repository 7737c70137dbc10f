use Rattle.std.proofs.Common.{sym, ◌∙◌}
use Rattle.aterm_text.proofs.TrimLemmas.{no_more, some_more}
use Rattle.aterm_text.proofs.GoesLemmas.{leads-end, lost-more, leads-comma, leads-close, lost-whole}
use Rattle.aterm_text.proofs.reader.machine.after_whole.Goals as goal

pub returns-then-is_empty-clause-leads : goal.returns-then-is_empty-clause-leads
returns-then-is_empty-clause-leads c =
    leads-end _ _ c.in_default.ensures (no_more c.args.text.now (sym c.if-is_empty.ensures))

pub returns-in_default-clause-none : goal.returns-in_default-clause-none
returns-in_default-clause-none c =
    λ e. lost-more _ _ c.in_default.ensures (some_more c.args.text.now c.requires (sym c.if-is_empty.ensures))

pub returns-in-Some-after_byte-clause-leads : goal.returns-in-Some-after_byte-clause-leads
returns-in-Some-after_byte-clause-leads c =
    leads-comma _ c.in-Some.closing _ (sym c.in-Some.ensures) _
    (c.requires ∙ c.in-Some-after_byte.ensures.some) c.in-Some-after_byte.ensures.shorter

pub returns-in_ok-close-in-Some-after_byte-2-clause-leads : goal.returns-in_ok-close-in-Some-after_byte-2-clause-leads
returns-in_ok-close-in-Some-after_byte-2-clause-leads c =
    leads-close _ c.in-Some.closing _ (sym c.in-Some.ensures) _ _ _ (c.requires ∙ c.in-Some-after_byte-2.ensures.some)
    c.in_ok-close-in-Some-after_byte-2.ensures.closed c.in-Some-after_byte-2.ensures.shorter

pub returns-in-None-clause-none : goal.returns-in-None-clause-none
returns-in-None-clause-none c = λ e.
    lost-whole _ c.in-Some.closing _ (sym c.in-Some.ensures) (λ y next. c.in_default-after_byte.ensures.none y
    (sym c.requires ∙ next)) (λ y next. c.in-None.ensures.none y (sym c.requires ∙ next))
