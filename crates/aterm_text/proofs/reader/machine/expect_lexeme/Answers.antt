use Rattle.aterm_text.specs.inside.Depth.{depth}
use Rattle.aterm_text.proofs.GoesLemmas.{leads-integer, on_ok}
use Rattle.aterm_text.proofs.DepthLemmas.{after_lexeme, keeps-push, keeps-after, too-deep-after}
use Rattle.aterm_text.proofs.reader.machine.expect_lexeme.Goals as goal

pub returns-in_ok-push-in-Integer-clause-leads : goal.returns-in_ok-push-in-Integer-clause-leads
returns-in_ok-push-in-Integer-clause-leads c =
    leads-integer _ _ _ _ c.in_ok-lexeme.ensures.shorter _ c.in-Integer.value c.integer.result
    c.in_ok-lexeme.ensures.found c.in-Integer.is c.integer.ensures c.in_ok-push-in-Integer.ensures.ok

pub returns-in_ok-push-in-Integer-clause-nesting : goal.returns-in_ok-push-in-Integer-clause-nesting
returns-in_ok-push-in-Integer-clause-nesting c =
    keeps-push c.args.stack.now _ c.args.text.now _ _
    (after_lexeme _ (depth c.args.stack.now) c.args.text.now _ c.in_ok-lexeme.ensures.found)
    c.in_ok-push-in-Integer.ensures.ok

pub returns-in-Named-clause-nesting : goal.returns-in-Named-clause-nesting
returns-in-Named-clause-nesting c =
    on_ok c.after_name.result _ _
    (λ step keeps. keeps-after c.args.stack.now _ c.args.text.now _ step
    (after_lexeme _ (depth c.args.stack.now) c.args.text.now _ c.in_ok-lexeme.ensures.found) keeps)
    c.after_name.ensures.nesting

pub returns-in-Named-clause-deep : goal.returns-in-Named-clause-deep
returns-in-Named-clause-deep c = λ e.
    too-deep-after (depth c.args.stack.now) c.args.text.now c.in_ok-lexeme.rest.now
    (after_lexeme _ (depth c.args.stack.now) c.args.text.now _ c.in_ok-lexeme.ensures.found)
    (c.after_name.ensures.deep e)
