use Rattle.std.proofs.Common.{◌≡◌, ◌+◌, ◌*◌, drop}
use Rattle.std.specs.Prelude.{is_some}
use Rattle.strategy_syntax.specs.Resolved.{resolved_patterns_of}
use Rattle.strategy_syntax.specs.inside.ResolvedPatternDepth.{resolved_pattern_depth, resolved_patterns_depth}
use Rattle.strategy_meaning.specs.Matching.{build_patterns}
use Rattle.term_match.proofs.cells.Cells.+has_instance.Given as goal

abbrev pub decreases-has_instance : goal.decreases-has_instance
decreases-has_instance g l = 2 * resolved_pattern_depth l.pattern.now

abbrev pub decreases-has_list : goal.decreases-has_list
decreases-has_list g l = 2 * resolved_pattern_depth l.pattern.now

abbrev pub decreases-have_instances : goal.decreases-have_instances
decreases-have_instances g l = 2 * resolved_patterns_depth (resolved_patterns_of l.parts.now) + 1

abbrev pub invariant-have_instances-loop-part : goal.invariant-have_instances-loop-part
invariant-have_instances-loop-part g l =
    is_some (build_patterns (resolved_patterns_of (drop l.part-index l.parts)) (g.P.VariableCells.cells l.variables)
    l.self.bindings)
    ≡ is_some (build_patterns (resolved_patterns_of l.parts) (g.P.VariableCells.cells l.variables) l.self.bindings)
