use Rattle.std.proofs.Common.{arith, ap, sym, Err}
use Rattle.aterm_text.specs.inside.Depth.{depth}
use Rattle.aterm_text.proofs.GoesLemmas.{leads-arguments, leads-constant}
use Rattle.aterm_text.proofs.DepthLemmas.{after_round, after_trim, keeps-open, keeps-push, too-deep}
use Rattle.aterm_text.proofs.reader.machine.after_name.Goals as goal

pub returns-in_ok-open-in-Some-clause-leads : goal.returns-in_ok-open-in-Some-clause-leads
returns-in_ok-open-in-Some-clause-leads c = λ x h shorter.
    leads-arguments _ _ _ x _ _ h c.after_blanks-text.ensures.value c.application-term.result c.new.result.items _
    (omega (arith, c.in-Some.ensures.shorter)) c.in-Some.ensures.some c.application-term.ensures
    c.new.ensures.items c.in_ok-open-in-Some.ensures.ok

pub returns-in_ok-push-in-None-clause-leads : goal.returns-in_ok-push-in-None-clause-leads
returns-in_ok-push-in-None-clause-leads c = λ x h shorter.
    leads-constant _ _ _ x _ _ h c.after_blanks-text.ensures.value c.application-term.result c.new.result.items
    (omega arith) c.in-None.ensures.none c.application-term.ensures c.new.ensures.items
    c.in_ok-push-in-None.ensures.ok

pub returns-in_err-open-in-Some-clause-deep : goal.returns-in_err-open-in-Some-clause-deep
returns-in_err-open-in-Some-clause-deep c = λ e.
    let h = rw e at c.from_residual.ensures in
    too-deep (depth c.args.stack.now) c.args.text.now c.in-Some.rest.now
    (after_round (depth c.args.stack.now) c.args.text.now _ c.in-Some.rest.now c.after_blanks-text.ensures.value
    c.in-Some.ensures.some) (c.in_err-open-in-Some.ensures.deep (ap Err (sym h.1)))

pub returns-in_ok-open-in-Some-clause-nesting : goal.returns-in_ok-open-in-Some-clause-nesting
returns-in_ok-open-in-Some-clause-nesting c =
    keeps-open c.args.stack.now _ c.args.text.now c.in-Some.rest.now c.application-term.result _
    (after_round (depth c.args.stack.now) c.args.text.now _ c.in-Some.rest.now c.after_blanks-text.ensures.value
    c.in-Some.ensures.some) c.in_ok-open-in-Some.ensures.ok c.in_ok-open-in-Some.ensures.few

pub returns-in_ok-push-in-None-clause-nesting : goal.returns-in_ok-push-in-None-clause-nesting
returns-in_ok-push-in-None-clause-nesting c =
    keeps-push c.args.stack.now _ c.args.text.now _ _
    (after_trim (depth c.args.stack.now) c.args.text.now _ c.after_blanks-text.ensures.value)
    c.in_ok-push-in-None.ensures.ok
