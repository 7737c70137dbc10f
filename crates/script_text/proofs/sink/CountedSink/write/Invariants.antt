use Rattle.std.proofs.Common.{◌≡◌}
use Rattle.std.specs.Io.KnownBytes.{Keeps}
use Rattle.script_text.proofs.sink.CountedSink.write.Given as goal

-- an interrupted try is no failure, and writes no byte
abbrev pub invariant-loop : goal.invariant-loop
invariant-loop g l = record {
  failures : l.self.failures ≡ l.fn.self.failures;
  kept : Keeps (g.W.Write.contents l.fn.self.inner) (g.W.Write.contents l.self.inner);
}
