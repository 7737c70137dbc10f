use Rattle.std.proofs.Common.{◌≡◌, ◌+◌, ◌*◌}
use Rattle.strategy_syntax.specs.Resolved.{resolved_patterns_of}
use Rattle.strategy_syntax.specs.inside.ResolvedPatternDepth.{resolved_pattern_depth, resolved_patterns_depth}
use Rattle.term_match.proofs.cells.Cells.+measure.Given as goal

abbrev pub decreases-measure : goal.decreases-measure
decreases-measure g l = 2 * resolved_pattern_depth l.pattern.now

abbrev pub decreases-measure_all : goal.decreases-measure_all
decreases-measure_all g l = 2 * resolved_patterns_depth (resolved_patterns_of l.parts.now) + 1

abbrev pub invariant-measure_all-loop-part : goal.invariant-measure_all-loop-part
invariant-measure_all-loop-part g l = l.self ≡ l.initial.self
