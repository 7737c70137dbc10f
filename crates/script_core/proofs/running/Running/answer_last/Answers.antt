use Rattle.std.proofs.Common.{refl, sym, true, ◌∙◌}
use Rattle.script_text.specs.Answer.{ReplyInRun}
use Rattle.script_core.proofs.RunningLemmas.{OnErr-from, Ends-ready, Breaks-ready, Ends-none}
use Rattle.script_core.proofs.running.Running.answer_last.Goals as goal

pub returns-in_err-answer_ready-clause-breaks : goal.returns-in_err-answer_ready-clause-breaks
returns-in_err-answer_ready-clause-breaks g c =
    let broken = c.in_err-answer_ready.ensures.breaks in
    OnErr-from _
    (Breaks-ready (ReplyInRun g.M.Meaning.meaning) _ (record c.args.self.now { splitter = c.finish.new.self }) _ _ refl
    refl c.finish.ensures.all _ _ broken.0 broken.1 broken.2)

pub returns-in_ok-answer_ready-clause-ends : goal.returns-in_ok-answer_ready-clause-ends
returns-in_ok-answer_ready-clause-ends g c = (
  _,
  Ends-ready (ReplyInRun g.M.Meaning.meaning) _ (record c.args.self.now { splitter = c.finish.new.self }) _ _ refl refl
      c.finish.ensures.all _ _ _ _ c.in_ok-answer_ready.ensures.answers,
)

pub returns-else-finish-clause-ends : goal.returns-else-finish-clause-ends
returns-else-finish-clause-ends g c = (
  true,
  Ends-none (ReplyInRun g.M.Meaning.meaning) _ (record c.args.self.now { splitter = c.finish.new.self }) _ _ refl refl
      c.finish.ensures.all (sym c.finish.ensures.ready ∙ c.if-finish.false),
)
