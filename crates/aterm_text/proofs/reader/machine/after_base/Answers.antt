use Rattle.std.proofs.Common.{sym, ap, Err, ◌∙◌}
use Rattle.aterm_text.proofs.GoesLemmas.{leads-annotations, leads-bare, lost-bare, on_ok}
use Rattle.aterm_text.specs.inside.Depth.{depth}
use Rattle.aterm_text.proofs.DepthLemmas.{after_curly, keeps-enter, too-deep}
use Rattle.aterm_text.proofs.reader.machine.after_base.Goals as goal

pub returns-in_ok-enter-in-Some-clause-leads : goal.returns-in_ok-enter-in-Some-clause-leads
returns-in_ok-enter-in-Some-clause-leads c = leads-annotations _ _ _ _ c.in-Some.ensures.shorter
    (c.requires ∙ c.in-Some.ensures.some) c.in_ok-enter-in-Some.ensures.ok

pub returns-in-None-clause-leads : goal.returns-in-None-clause-leads
returns-in-None-clause-leads c =
    on_ok c.after_whole.result _ _
    (λ step leads. leads-bare _ _ (λ y next. c.in-None.ensures.none y (sym c.requires ∙ next)) _ step leads)
    c.after_whole.ensures.leads

pub returns-in-None-clause-none : goal.returns-in-None-clause-none
returns-in-None-clause-none c =
    λ e. lost-bare _ _ (λ y next. c.in-None.ensures.none y (sym c.requires ∙ next)) (c.after_whole.ensures.none e)

pub returns-in_err-enter-in-Some-clause-deep : goal.returns-in_err-enter-in-Some-clause-deep
returns-in_err-enter-in-Some-clause-deep c = λ e.
    let h = rw e at c.from_residual.ensures in
    too-deep (depth c.args.stack.now) c.args.text.now c.in-Some.rest.now
    (after_curly (depth c.args.stack.now) c.args.text.now c.in-Some.rest.now c.in-Some.ensures.some)
    (c.in_err-enter-in-Some.ensures.deep (ap Err (sym h.1)))

pub returns-in_ok-enter-in-Some-clause-nesting : goal.returns-in_ok-enter-in-Some-clause-nesting
returns-in_ok-enter-in-Some-clause-nesting c =
    keeps-enter c.args.stack.now _ c.args.text.now c.in-Some.rest.now _
    (after_curly (depth c.args.stack.now) c.args.text.now c.in-Some.rest.now c.in-Some.ensures.some)
    c.in_ok-enter-in-Some.ensures.ok c.in_ok-enter-in-Some.ensures.few
