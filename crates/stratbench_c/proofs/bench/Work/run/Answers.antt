use Rattle.std.proofs.Common.{is_some, refl, sym, subst, ◌∙◌}
use Rattle.std.proofs.lemmas.List.{take_rest}
use Rattle.stratbench_c.proofs.ProgressLemmas.{Progress-none, Progress-more, Progress-cut, Progress-end, Progress-last, Progress-last-cut, some_ran}
use Rattle.stratbench_c.specs.Status.{HasCause}
use Rattle.stratbench_c.proofs.bench.Work.run.Goals as goal

pub loop-taken-init : goal.loop-taken-init
loop-taken-init c = (Progress-none _ _ _ _ _ _ _ c.in-Ok.ensures c.clear.ensures c.clear-2.ensures.items, refl)

pub loop-taken-preserved : goal.loop-taken-preserved
loop-taken-preserved c = (
  Progress-more _ _ _ _ _ _ _ _ _ c.loop-taken.splitter c.feed.new.self _ c.loop-taken.invariant.0 c.in-Command.ensures
      _ _ _ _ _ _
      (take_rest c.loop-taken.rest.now c.in-Command.taken) c.command.ensures c.in-Ok-answer.ensures.ok
      c.in-Ok-answer.ensures.ends,
  c.answer.ensures.stop ∙ c.loop-taken.invariant.1,
)

pub returns-in-Err-clause-ran : goal.returns-in-Err-clause-ran
returns-in-Err-clause-ran c =
    rw c.unanswered.ensures (some_ran c.args.framing c.args.steps c.args.script.now c.args.self.now c.answer.new.self
    c.in-Err.why (subst (λ s. HasCause c.in-Err.why (is_some s)) c.loop-taken.invariant.1 c.in-Err.ensures.cause)
    (Progress-cut _ _ _ _ _ _ _ _ _ c.loop-taken.splitter c.feed.new.self _ c.loop-taken.invariant.0
    c.in-Command.ensures _ _ _ c.in-Err.ensures.session c.in-Err.ensures.answers c.in-Err.ensures.same_ends))

pub returns-then-not-finish-clause-ran : goal.returns-then-not-finish-clause-ran
returns-then-not-finish-clause-ran c =
    rw c.answered.ensures (Progress-end _ _ _ _ _ _ _ _ _ c.loop-taken.splitter c.feed.new.self c.finish.new.self
    c.loop-taken.invariant.0 c.in_default-feed.ensures c.finish.ensures.all
    _ refl refl refl (sym c.finish.ensures.ready ∙ c.if-not-finish.true))

pub returns-in-Ok-answer-2-clause-ran : goal.returns-in-Ok-answer-2-clause-ran
returns-in-Ok-answer-2-clause-ran c =
    rw c.answered-in-Ok-answer-2.ensures (Progress-last _ _ _ _ _ _ _ _ _ c.loop-taken.splitter c.feed.new.self
    c.finish.new.self c.loop-taken.invariant.0 c.in_default-feed.ensures c.finish.ensures.all
    _ c.command-2.ensures _ _ c.in-Ok-answer-2.ensures.ok c.in-Ok-answer-2.ensures.ends)

pub returns-clause-ran : goal.returns-clause-ran
returns-clause-ran c =
    rw c.unanswered-in-Err-answer.ensures
    (some_ran c.args.framing c.args.steps c.args.script.now c.args.self.now c.answer-2.new.self c.in-Err-answer.why
    (subst (λ s. HasCause c.in-Err-answer.why (is_some s)) c.loop-taken.invariant.1 c.in-Err-answer.ensures.cause)
    (Progress-last-cut _ _ _ _ c.args.self.now _ _ _ _ c.loop-taken.splitter c.feed.new.self c.finish.new.self
    c.loop-taken.invariant.0 c.in_default-feed.ensures c.finish.ensures.all
    _ c.command-2.ensures _ _ _ c.in-Err-answer.ensures.session c.in-Err-answer.ensures.answers
    c.in-Err-answer.ensures.same_ends))
