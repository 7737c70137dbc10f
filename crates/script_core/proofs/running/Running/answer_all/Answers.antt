use Rattle.std.proofs.Common.{refl, true, false, length, ◌∙◌}
use Rattle.script_core.specs.Ran.{streams}
use Rattle.script_text.specs.Answer.{ReplyInRun}
use Rattle.script_core.proofs.RunningLemmas.{Progress-none, Progress-more, Progress-fault, Progress-unflushed, Progress-last, Progress-last-unflushed, turn_is}
use Rattle.script_core.proofs.running.Running.answer_all.Goals as goal

pub loop-init : goal.loop-init
loop-init g c =
    record { progress = Progress-none (ReplyInRun g.M.Meaning.meaning) _ _ _ c.requires.fresh; piece = (search) }

pub returns-in_default-clause-right : goal.returns-in_default-clause-right
returns-in_default-clause-right g c =
    Progress-last-unflushed (ReplyInRun g.M.Meaning.meaning) c.args.self.now c.loop.self c.args.session.now
    c.loop.session (streams (g.I.Source.left c.args.source.now) (g.O.Sink.held c.args.sink.now)
    (g.I.Source.failed c.args.source.now) (g.O.Sink.failed c.args.sink.now))
    (streams (g.I.Source.left c.loop.source) (g.O.Sink.held c.loop.sink) (g.I.Source.failed c.loop.source)
    (g.O.Sink.failed c.loop.sink)) _ c.loop.invariant.progress c.turn.new.self c.turn.new.session
    (streams (g.I.Source.left c.turn.new.source) (g.O.Sink.held c.turn.new.sink) (g.I.Source.failed c.turn.new.source)
    (g.O.Sink.failed c.turn.new.sink)) (streams (g.I.Source.left c.turn.new.source) (g.O.Sink.held c.flush.new.self)
    (g.I.Source.failed c.turn.new.source) (g.O.Sink.failed c.flush.new.self)) (length c.loop.piece)
    (turn_is (ReplyInRun g.M.Meaning.meaning) c.in-Ok-false.field-0 false c.loop.self c.turn.new.self c.loop.session
    c.turn.new.session (streams (g.I.Source.left c.loop.source) (g.O.Sink.held c.loop.sink)
    (g.I.Source.failed c.loop.source) (g.O.Sink.failed c.loop.sink))
    (streams (g.I.Source.left c.turn.new.source) (g.O.Sink.held c.turn.new.sink) (g.I.Source.failed c.turn.new.source)
    (g.O.Sink.failed c.turn.new.sink)) (length c.loop.piece) c.in-Ok-false.field-0-test c.in-Ok-false.ensures.right)
    refl c.flush.ensures.keeps c.in_default.ensures.count refl

pub returns-in-Ok-false-clause-right : goal.returns-in-Ok-false-clause-right
returns-in-Ok-false-clause-right g c =
    Progress-last (ReplyInRun g.M.Meaning.meaning) c.args.self.now c.loop.self c.args.session.now c.loop.session
    (streams (g.I.Source.left c.args.source.now) (g.O.Sink.held c.args.sink.now) (g.I.Source.failed c.args.source.now)
    (g.O.Sink.failed c.args.sink.now))
    (streams (g.I.Source.left c.loop.source) (g.O.Sink.held c.loop.sink) (g.I.Source.failed c.loop.source)
    (g.O.Sink.failed c.loop.sink)) _ c.loop.invariant.progress c.turn.new.self c.turn.new.session
    (streams (g.I.Source.left c.turn.new.source) (g.O.Sink.held c.turn.new.sink) (g.I.Source.failed c.turn.new.source)
    (g.O.Sink.failed c.turn.new.sink)) (streams (g.I.Source.left c.turn.new.source) (g.O.Sink.held c.flush.new.self)
    (g.I.Source.failed c.turn.new.source) (g.O.Sink.failed c.flush.new.self)) (length c.loop.piece)
    (turn_is (ReplyInRun g.M.Meaning.meaning) c.in-Ok-false.field-0 false c.loop.self c.turn.new.self c.loop.session
    c.turn.new.session (streams (g.I.Source.left c.loop.source) (g.O.Sink.held c.loop.sink)
    (g.I.Source.failed c.loop.source) (g.O.Sink.failed c.loop.sink))
    (streams (g.I.Source.left c.turn.new.source) (g.O.Sink.held c.turn.new.sink) (g.I.Source.failed c.turn.new.source)
    (g.O.Sink.failed c.turn.new.sink)) (length c.loop.piece) c.in-Ok-false.field-0-test c.in-Ok-false.ensures.right)
    refl c.flush.ensures.keeps c.requires.zero.0 c.requires.zero.1 (refl, c.in-Ok.ensures.same)

pub returns-in-Err-clause-right : goal.returns-in-Err-clause-right
returns-in-Err-clause-right g c =
    Progress-fault (ReplyInRun g.M.Meaning.meaning) c.args.self.now c.loop.self c.args.session.now c.loop.session
    (streams (g.I.Source.left c.args.source.now) (g.O.Sink.held c.args.sink.now) (g.I.Source.failed c.args.source.now)
    (g.O.Sink.failed c.args.sink.now))
    (streams (g.I.Source.left c.loop.source) (g.O.Sink.held c.loop.sink) (g.I.Source.failed c.loop.source)
    (g.O.Sink.failed c.loop.sink)) _ c.loop.invariant.progress c.turn.new.self c.turn.new.session
    (streams (g.I.Source.left c.turn.new.source) (g.O.Sink.held c.turn.new.sink) (g.I.Source.failed c.turn.new.source)
    (g.O.Sink.failed c.turn.new.sink)) _ c.in-Err.fault c.in-Err.ensures.right

pub loop-preserved : goal.loop-preserved
loop-preserved g c = record {
  progress = Progress-more (ReplyInRun g.M.Meaning.meaning) c.args.self.now c.loop.self c.turn.new.self
      c.args.session.now c.loop.session c.turn.new.session (streams (g.I.Source.left c.args.source.now)
      (g.O.Sink.held c.args.sink.now) (g.I.Source.failed c.args.source.now) (g.O.Sink.failed c.args.sink.now))
      (streams (g.I.Source.left c.loop.source) (g.O.Sink.held c.loop.sink) (g.I.Source.failed c.loop.source)
      (g.O.Sink.failed c.loop.sink))
      (streams (g.I.Source.left c.turn.new.source) (g.O.Sink.held c.turn.new.sink) (g.I.Source.failed c.turn.new.source)
      (g.O.Sink.failed c.turn.new.sink)) _ _ c.loop.invariant.piece c.loop.invariant.progress
      (turn_is (ReplyInRun g.M.Meaning.meaning) c.in-Ok-true.field-0 true c.loop.self c.turn.new.self c.loop.session
      c.turn.new.session (streams (g.I.Source.left c.loop.source) (g.O.Sink.held c.loop.sink)
      (g.I.Source.failed c.loop.source) (g.O.Sink.failed c.loop.sink))
      (streams (g.I.Source.left c.turn.new.source) (g.O.Sink.held c.turn.new.sink) (g.I.Source.failed c.turn.new.source)
      (g.O.Sink.failed c.turn.new.sink)) (length c.loop.piece) c.in-Ok-true.field-0-test c.in-Ok-true.ensures.right);
  piece = c.in-Ok-true.ensures.piece ∙ c.loop.invariant.piece;
}

pub returns-in_default-flush-clause-right : goal.returns-in_default-flush-clause-right
returns-in_default-flush-clause-right g c =
    Progress-unflushed (ReplyInRun g.M.Meaning.meaning) c.args.self.now c.loop.self c.args.session.now c.loop.session
    (streams (g.I.Source.left c.args.source.now) (g.O.Sink.held c.args.sink.now) (g.I.Source.failed c.args.source.now)
    (g.O.Sink.failed c.args.sink.now)) (streams (g.I.Source.left c.loop.source) (g.O.Sink.held c.loop.sink)
    (g.I.Source.failed c.loop.source) (g.O.Sink.failed c.loop.sink)) _ c.loop.invariant.progress
    (streams (g.I.Source.left c.loop.source) (g.O.Sink.held c.flush-2.new.self) (g.I.Source.failed c.loop.source)
    (g.O.Sink.failed c.flush-2.new.self)) refl c.flush-2.ensures.keeps c.in_default-flush.ensures.count refl
