use Rattle.std.proofs.Common.{◌≡◌}
use Rattle.std.specs.Io.KnownBytes.{Keeps}
use Rattle.script_text.proofs.source.CountedSource.read.Given as goal

-- an interrupted try is no failure, and takes no byte
abbrev pub invariant-loop : goal.invariant-loop
invariant-loop g l = record {
  failures : l.self.failures ≡ l.fn.self.failures;
  kept : Keeps (g.R.Read.remaining l.fn.self.inner) (g.R.Read.remaining l.self.inner);
}
