use Rattle.std.proofs.Common.{◌++◌, arith, refl, ap, ◌∙◌}
use Rattle.std.proofs.lemmas.List.Sums.{prefix_len-le-length}
use Rattle.aterm_text.specs.inside.Runs.{is_plain}
use Rattle.aterm_text.proofs.ScanLemmas.{run_at_start, run_after, rest_stops, all_read, none_read, no_escape, no_quote, no_item}
use Rattle.aterm_text.proofs.reader.scan.escaped.Goals as goal

pub split_at-requires : goal.split_at-requires
split_at-requires c = omega (arith, prefix_len-le-length is_plain c.args.text.now)

pub loop-after-init : goal.loop-after-init
loop-after-init c = (
  run_at_start _ _ _ _ c.args.run c.requires c.split_at.ensures.front c.split_at.ensures.back
      c.in_ok-bytes.ensures.items,
  rest_stops c.args.text.now _ c.args.run c.requires c.split_at.ensures.back,
)

pub returns-in_default-escape-clause-none : goal.returns-in_default-escape-clause-none
returns-in_default-escape-clause-none c = λ e.
    none_read _ _ _ c.loop-after.invariant.0 (no_escape _ _ c.in-Some.ensures.some c.in_default-escape.ensures.none)
    (no_quote _ _ c.in-Some.ensures.some)

pub loop-after-preserved : goal.loop-after-preserved
loop-after-preserved c = (
  run_after _ _ _ _ _ _ _ _ _ c.loop-after.invariant.0 c.in-Some.ensures.some c.in-Some-escape.ensures.some
      c.in-Some-escape.ensures.shorter c.first_run.ensures.run c.first_run.ensures.rest
      (c.in_ok-extend_from_slice.ensures.items ∙ ap (λ l. l ++ c.first_run.result.0.now) c.in_ok-push.ensures.items),
  rest_stops c.in-Some-escape.after.now _ _ refl c.first_run.ensures.rest,
)

pub returns-in-Some-after_byte-clause-found : goal.returns-in-Some-after_byte-clause-found
returns-in-Some-after_byte-clause-found c = all_read _ _ _ _ c.loop-after.invariant.0 c.in-Some-after_byte.ensures.some

pub returns-clause-none : goal.returns-clause-none
returns-clause-none c = λ e. none_read _ _ _ c.loop-after.invariant.0
    (no_item _ c.loop-after.invariant.1 c.in_default.ensures.none) c.in-None.ensures.none
