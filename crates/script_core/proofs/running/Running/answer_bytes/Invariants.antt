use Rattle.std.proofs.Common.{◌≡◌, length, true}
use Rattle.script_text.specs.Answer.{ReplyInRun}
use Rattle.script_core.specs.inside.Running.{Underway}
use Rattle.script_core.proofs.running.Running.answer_bytes.Given as goal

-- the commands of the bytes before the rest are answered
abbrev pub invariant-loop-taken : goal.invariant-loop-taken
invariant-loop-taken g l = record {
  underway : Underway (ReplyInRun g.M.Meaning.meaning) l.fn.self l.self l.fn.session l.session (g.O.Sink.held l.fn.sink)
      (g.O.Sink.held l.sink) l.bytes l.rest true;
  same : g.O.Sink.failed l.sink ≡ g.O.Sink.failed l.fn.sink;
}

abbrev pub decreases-loop-taken : goal.decreases-loop-taken
decreases-loop-taken g l = length l.rest
