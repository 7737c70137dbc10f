use Rattle.std.proofs.Common.{sym, ap, Err, ◌∙◌}
use Rattle.aterm_text.proofs.TokenLemmas.{no_term-other}
use Rattle.aterm_text.proofs.GoesLemmas.{lost-no_term, leads-list, leads-tuple}
use Rattle.aterm_text.specs.inside.Depth.{depth}
use Rattle.aterm_text.proofs.DepthLemmas.{after_round, after_square, too-deep}
use Rattle.aterm_text.proofs.reader.machine.expect_term.Goals as goal

pub returns-in-Some-clause-leads : goal.returns-in-Some-clause-leads
returns-in-Some-clause-leads c = leads-list _ _ _ _ c.in-Some.ensures.shorter c.list.result c.new.result.items
    (c.requires ∙ c.in-Some.ensures.some) c.list.ensures c.new.ensures.items c.in_ok-open.ensures.ok

pub returns-in_err-open-clause-deep : goal.returns-in_err-open-clause-deep
returns-in_err-open-clause-deep c = λ e.
    let h = rw e at c.from_residual.ensures in
    too-deep (depth c.args.stack.now) c.args.text.now c.in-Some.rest.now
    (after_square (depth c.args.stack.now) c.args.text.now c.in-Some.rest.now c.in-Some.ensures.some)
    (c.in_err-open.ensures.deep (ap Err (sym h.1)))

pub returns-in-Some-after_byte-clause-leads : goal.returns-in-Some-after_byte-clause-leads
returns-in-Some-after_byte-clause-leads c =
    leads-tuple _ _ _ _ c.in-Some-after_byte.ensures.shorter c.tuple.result c.new-in-Some-after_byte.result.items
    (c.requires ∙ c.in-Some-after_byte.ensures.some) c.tuple.ensures c.new-in-Some-after_byte.ensures.items
    c.in_ok-open-2.ensures.ok

pub returns-in_err-open-2-clause-deep : goal.returns-in_err-open-2-clause-deep
returns-in_err-open-2-clause-deep c = λ e.
    let h = rw e at c.from_residual-in_err-open-2.ensures in
    too-deep (depth c.args.stack.now) c.args.text.now c.in-Some-after_byte.rest.now
    (after_round (depth c.args.stack.now) c.args.text.now _ c.in-Some-after_byte.rest.now (sym c.requires)
    c.in-Some-after_byte.ensures.some) (c.in_err-open-2.ensures.deep (ap Err (sym h.1)))

pub returns-clause-none : goal.returns-clause-none
returns-clause-none c = λ e.
    lost-no_term _ _
    (no_term-other c.args.text.now (c.expect_lexeme.ensures.none e) (λ y next. c.in_default.ensures.none y
    (sym c.requires ∙ next)) (λ y next. c.in_default-after_byte.ensures.none y (sym c.requires ∙ next)))
