use Rattle.std.proofs.Common.{◌≡◌}
use Rattle.diagnostic.proofs.diagnostic.Diagnostic.show.Given as goal

abbrev pub invariant-loop : goal.invariant-loop
invariant-loop l =
    (l.self.severity ≡ l.initial.self.severity) × (l.self.code ≡ l.initial.self.code)
