use Rattle.std.proofs.Common.{◌≡◌, ◌+◌, ◌*◌, ◌++◌, max, drop, option_map}
use Rattle.strategy_syntax.specs.Resolved.{resolved_patterns_of}
use Rattle.strategy_syntax.specs.inside.ResolvedPatternDepth.{resolved_pattern_depth, resolved_patterns_depth}
use Rattle.strategy_meaning.specs.Matching.{build_patterns}
use Rattle.term_match.proofs.cells.Cells.+instance.Given as goal

abbrev pub decreases-instance : goal.decreases-instance
decreases-instance g l = 4 * resolved_pattern_depth l.pattern.now

abbrev pub decreases-with_tail : goal.decreases-with_tail
decreases-with_tail g l =
    4 * max (resolved_patterns_depth (resolved_patterns_of l.parts.now)) (resolved_pattern_depth l.tail.now) + 3

abbrev pub decreases-annotated : goal.decreases-annotated
decreases-annotated g l =
    4 * max (resolved_pattern_depth l.inner.now) (resolved_patterns_depth (resolved_patterns_of l.annotations.now)) + 3

abbrev pub decreases-with_all : goal.decreases-with_all
decreases-with_all g l = 4 * resolved_patterns_depth (resolved_patterns_of l.annotations.now) + 2

abbrev pub decreases-compound : goal.decreases-compound
decreases-compound g l = 4 * resolved_patterns_depth (resolved_patterns_of l.parts.now) + 2

abbrev pub decreases-over_two : goal.decreases-over_two
decreases-over_two g l = 4 * max (resolved_pattern_depth l.left.now) (resolved_pattern_depth l.right.now) + 1

abbrev pub decreases-in_front : goal.decreases-in_front
decreases-in_front g l = 4 * resolved_patterns_depth (resolved_patterns_of l.parts.now) + 2

abbrev pub decreases-instances : goal.decreases-instances
decreases-instances g l = 4 * resolved_patterns_depth (resolved_patterns_of l.parts.now) + 1

abbrev pub invariant-instances-loop-part : goal.invariant-instances-loop-part
invariant-instances-loop-part g l =
    option_map (λ us. l.all.items ++ us)
    (build_patterns (resolved_patterns_of (drop l.part-index l.parts)) (g.P.VariableCells.cells l.variables)
    l.self.bindings)
    ≡ build_patterns (resolved_patterns_of l.parts) (g.P.VariableCells.cells l.variables) l.self.bindings
