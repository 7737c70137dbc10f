use Rattle.std.proofs.Common.{◌+◌, ◌<◌, ◌≤◌, length, refl, sym, ap, ◌∙◌, None, arith}
use Rattle.script_text.specs.Split.{Split}
use Rattle.script_text.proofs.SplitRunLemmas.{Goes-run, Goes-byte, goes_after, goes_after_all, command_there, run_within}
use Rattle.script_text.proofs.splitter.Splitter.feed.Goals as goal

pub loop-at-init : goal.loop-at-init
loop-at-init c = record {
  none = refl;
  goes = record { out = refl; left = ap (λ (s : Split). s.left) (sym c.self.view_is) ∙ sym c.go_on_after.ensures };
  in_range = omega arith;
}

pub returns-in-Some : goal.returns-in-Some
returns-in-Some c =
    let within : c.loop-at.at + c.take_run-at.result ≤ length c.args.bytes.now =
    run_within _ _ _ c.loop-at.invariant.in_range c.take_run-at.ensures.within in
    let here : c.loop-at.at + c.take_run-at.result < length c.args.bytes.now =
    omega (arith, within, c.if-at-bytes.false) in
    let there = command_there _ c.in-Some.ensures.there in
    let goes = Goes-byte _ _ _ _ _ (Goes-run _ _ _ _ _ c.loop-at.invariant.goes _ c.take_run-at.ensures.goes) _ here
    c.in-Some.ensures.completes in (
      omega arith,
      omega (arith, here),
      there.0,
      there.1,
      λ framing x out h. goes_after _ _ framing x out h _ _ (rw there.1 at goes),
    )

pub loop-at-preserved : goal.loop-at-preserved
loop-at-preserved c =
    let within : c.loop-at.at + c.take_run-at.result ≤ length c.args.bytes.now =
    run_within _ _ _ c.loop-at.invariant.in_range c.take_run-at.ensures.within in
    let here : c.loop-at.at + c.take_run-at.result < length c.args.bytes.now =
    omega (arith, within, c.if-at-bytes.false) in
    record {
      none = c.loop-at.invariant.none;
      goes = Goes-byte _ _ _ _ _ (Goes-run _ _ _ _ _ c.loop-at.invariant.goes _ c.take_run-at.ensures.goes) None here
          c.in_default.ensures.goes;
      in_range = omega (arith, here);
    }

pub returns-after-loop-at : goal.returns-after-loop-at
returns-after-loop-at c framing x out h =
    goes_after_all _ _ framing x out h _ c.loop-at.at (omega (arith, c.loop-at-test.false))
    (rw c.loop-at.invariant.none c.loop-at.invariant.goes)

pub returns-then-at-bytes : goal.returns-then-at-bytes
returns-then-at-bytes c framing x out h =
    goes_after_all _ _ framing x out h _ (c.loop-at.at + c.take_run-at.result) (omega (arith, c.if-at-bytes.true))
    (rw c.loop-at.invariant.none (Goes-run _ _ _ _ _ c.loop-at.invariant.goes _ c.take_run-at.ensures.goes))
