use Rattle.std.proofs.Common.{◌≡◌}
use Rattle.diagnostic.proofs.diagnostic.Diagnostic.path.Given as goal

abbrev pub invariant-loop-index : goal.invariant-loop-index
invariant-loop-index l =
    (l.self.severity ≡ l.initial.self.severity) × (l.self.code ≡ l.initial.self.code)
