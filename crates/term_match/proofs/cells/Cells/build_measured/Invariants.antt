use Rattle.std.proofs.Common.{◌≡◌}
use Rattle.term_match.proofs.cells.Cells.build_measured.Given as goal

abbrev pub invariant-measure : goal.invariant-measure
invariant-measure g l = l.self ≡ l.initial.self
