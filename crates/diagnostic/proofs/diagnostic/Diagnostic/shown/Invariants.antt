use Rattle.std.proofs.Common.{◌≡◌}
use Rattle.diagnostic.proofs.diagnostic.Diagnostic.shown.Given as goal

abbrev pub invariant-loop-byte : goal.invariant-loop-byte
invariant-loop-byte l =
    (l.self.severity ≡ l.initial.self.severity) × (l.self.code ≡ l.initial.self.code)
