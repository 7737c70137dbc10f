use Rattle.std.proofs.Common.{refl, ◌∙◌}
use Rattle.std.proofs.lemmas.List.{take_rest}
use Rattle.script_text.specs.Answer.{ReplyInRun}
use Rattle.script_core.proofs.RunningLemmas.{OnErr-from, Underway-none, Underway-more, Underway-all, Breaks-more, ready_is}
use Rattle.script_core.proofs.running.Running.answer_bytes.Goals as goal

pub loop-taken-init : goal.loop-taken-init
loop-taken-init g c = record { underway = Underway-none (ReplyInRun g.M.Meaning.meaning) _ _ _ _; same = refl }

pub returns-in_err-answer_ready-clause-breaks : goal.returns-in_err-answer_ready-clause-breaks
returns-in_err-answer_ready-clause-breaks g c =
    let broken = c.in_err-answer_ready.ensures.breaks in
    OnErr-from _
    (Breaks-more (ReplyInRun g.M.Meaning.meaning) _ _ (record c.loop-taken.self { splitter = c.feed.new.self }) _ _ _ _
    _ _ _ _ _ _ c.loop-taken.invariant.underway c.in-Command.ensures refl refl refl broken.0 broken.1 broken.2)

pub returns-then-not-branch-clause-answers : goal.returns-then-not-branch-clause-answers
returns-then-not-branch-clause-answers g c = (
  _,
  Underway-more (ReplyInRun g.M.Meaning.meaning) _ _ (record c.loop-taken.self { splitter = c.feed.new.self }) _ _ _ _ _
      _ _ _ _ _ c.loop-taken.invariant.underway c.in-Command.ensures refl refl refl _ _
      (ready_is (ReplyInRun g.M.Meaning.meaning) (record c.loop-taken.self { splitter = c.feed.new.self }) _ _ _ _ _ _ _
      c.if-not-branch.true c.in_ok-answer_ready.ensures.answers) c.in_ok-answer_ready.ensures.splitter,
)

pub loop-taken-preserved : goal.loop-taken-preserved
loop-taken-preserved g c = record {
  underway = Underway-more (ReplyInRun g.M.Meaning.meaning) _ _
      (record c.loop-taken.self { splitter = c.feed.new.self }) _ _ _ _ _ _ _ _ _ _ c.loop-taken.invariant.underway
      c.in-Command.ensures (take_rest c.loop-taken.rest.now c.in-Command.taken) refl refl _ _
      (ready_is (ReplyInRun g.M.Meaning.meaning) (record c.loop-taken.self { splitter = c.feed.new.self }) _ _ _ _ _ _ _
      c.if-not-branch.false c.in_ok-answer_ready.ensures.answers) c.in_ok-answer_ready.ensures.splitter;
  same = c.in_ok-answer_ready.ensures.same ∙ c.loop-taken.invariant.same;
}

pub returns-clause-answers : goal.returns-clause-answers
returns-clause-answers g c =
    Underway-all (ReplyInRun g.M.Meaning.meaning) _ _ (record c.loop-taken.self { splitter = c.feed.new.self }) _ _ _ _
    _ _ c.loop-taken.invariant.underway c.in_default.ensures refl refl
