use Rattle.std.proofs.Common.{◌++◌, ap, ◌∙◌}
use Rattle.strategy_tokens.proofs.StringLemmas.{first, ends, step}
use Rattle.strategy_tokens.proofs.string.unescape.Goals as goal

pub loop-after-init : goal.loop-after-init
loop-after-init c = (
  first c.args.items.now _ _ _ c.first_run.ensures.run c.first_run.ensures.rest c.in_ok-bytes.ensures.items,
  ends c.args.items.now _ c.first_run.ensures.rest,
)

pub loop-after-preserved : goal.loop-after-preserved
loop-after-preserved c = (
  step c.args.items.now c.loop-after.bytes.items c.loop-after.rest.now _ c.in-Some-escape.after.now _ _ _ _ _
      c.loop-after.invariant.0 c.loop-after.invariant.1
      c.in-Some.ensures.cases.0 c.in-Some-escape.ensures.some c.first_run-in-Some.ensures.run
      c.first_run-in-Some.ensures.rest
      (c.in_ok-extend_from_slice.ensures.items
      ∙ ap (λ l. l ++ c.first_run-in-Some.result.0.now) c.in_ok-push.ensures.items),
  ends c.in-Some-escape.after.now _ c.first_run-in-Some.ensures.rest,
)
