use Rattle.std.proofs.Common.{refl, not}
use Rattle.script_text.specs.FedRight.{handed_out}
use Rattle.script_text.specs.Answer.{ReplyInRun}
use Rattle.script_text.proofs.RunLemmas.{Completes-one, BreaksOff-one}
use Rattle.script_core.proofs.RunningLemmas.{OnErr-from, ready_answered, true_or, false_or}
use Rattle.script_core.proofs.running.Running.answer_ready.Goals as goal

pub returns-in_err-write_whole-clause-breaks : goal.returns-in_err-write_whole-clause-breaks
returns-in_err-write_whole-clause-breaks g c =
    let lost = c.in_err-write_whole.ensures.err in
    OnErr-from c.from_residual.result (
      handed_out c.command.result,
      c.command.ensures,
      BreaksOff-one _ (ReplyInRun g.M.Meaning.meaning c.args.self.now.settings.steps) _ _ _ _ _
          c.answer_watched-accepted.result _ _ lost.0 c.bytes.ensures c.answer_watched-accepted.ensures lost.1,
    )

pub returns-then-accepted-clause-answers : goal.returns-then-accepted-clause-answers
returns-then-accepted-clause-answers g c =
    ready_answered (ReplyInRun g.M.Meaning.meaning) _ _ (handed_out c.command.result) _ _ _ _
    c.answer_watched-accepted.result _ c.command.ensures
    (Completes-one _ (ReplyInRun g.M.Meaning.meaning c.args.self.now.settings.steps) _ _ _ _ _ _ _ _ c.bytes.ensures
    c.answer_watched-accepted.ensures c.in_ok-write_whole.ensures.ok)
    c.count.ensures.accepted c.count.ensures.refused refl (true_or _ _ c.if-accepted.true)

pub returns-else-accepted-clause-answers : goal.returns-else-accepted-clause-answers
returns-else-accepted-clause-answers g c =
    ready_answered (ReplyInRun g.M.Meaning.meaning) _ _ (handed_out c.command.result) _ _ _ _
    c.answer_watched-accepted.result _ c.command.ensures
    (Completes-one _ (ReplyInRun g.M.Meaning.meaning c.args.self.now.settings.steps) _ _ _ _ _ _ _ _ c.bytes.ensures
    c.answer_watched-accepted.ensures c.in_ok-write_whole.ensures.ok)
    c.count.ensures.accepted c.count.ensures.refused refl
    (false_or _ (not c.args.self.now.settings.stop) c.if-accepted.false)
