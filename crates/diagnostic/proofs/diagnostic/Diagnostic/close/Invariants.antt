use Rattle.std.proofs.Common.{◌≡◌}
use Rattle.diagnostic.proofs.diagnostic.Diagnostic.close.Given as goal

abbrev pub invariant-loop-number : goal.invariant-loop-number
invariant-loop-number l =
    (l.self.severity ≡ l.initial.self.severity) × (l.self.code ≡ l.initial.self.code)
