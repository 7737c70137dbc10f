use Rattle.std.proofs.Common.{◌≡◌, length}
use Rattle.script_text.specs.Run.{WritesFront}
use Rattle.script_text.proofs.write.write_whole.Given as goal

-- what was written so far, and what is left
abbrev pub invariant-loop-rest : goal.invariant-loop-rest
invariant-loop-rest g l = record {
  front : WritesFront (g.O.Sink.held l.fn.sink) (g.O.Sink.held l.sink) l.bytes l.rest;
  same : g.O.Sink.failed l.sink ≡ g.O.Sink.failed l.fn.sink;
}

abbrev pub decreases-loop-rest : goal.decreases-loop-rest
decreases-loop-rest g l = length l.rest
