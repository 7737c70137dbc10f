use Rattle.std.proofs.Common.{◌≡◌, length}
use Rattle.script_core.specs.declared.running.TheConstants.{PIECE}
use Rattle.script_text.specs.Answer.{ReplyInRun}
use Rattle.script_core.specs.Ran.{streams}
use Rattle.script_core.proofs.RunningLemmas.{Progress}
use Rattle.script_core.proofs.running.Running.answer_all.Given as goal

-- the progress of the run after this many turns
abbrev pub invariant-loop : goal.invariant-loop
invariant-loop g l = record {
  progress : Progress (ReplyInRun g.M.Meaning.meaning) l.fn.self l.self l.fn.session l.session
      (streams (g.I.Source.left l.fn.source) (g.O.Sink.held l.fn.sink) (g.I.Source.failed l.fn.source)
      (g.O.Sink.failed l.fn.sink))
      (streams (g.I.Source.left l.source) (g.O.Sink.held l.sink) (g.I.Source.failed l.source) (g.O.Sink.failed l.sink))
      l.counter;
  piece : length l.piece ≡ PIECE;
}
