use Rattle.std.proofs.Common.{◌≡◌, ◌+◌, ◌*◌, length, take}
use Rattle.term_core.specs.Tree.{children}
use Rattle.strategy_syntax.specs.Resolved.{resolved_patterns_of}
use Rattle.strategy_syntax.specs.inside.ResolvedPatternDepth.{resolved_pattern_depth, resolved_patterns_depth}
use Rattle.strategy_meaning.specs.Matching.{match_patterns}
use Rattle.term_match.specs.inside.Growing.{Grows}
use Rattle.term_match.proofs.MatchLemmas.{matched_from}
use Rattle.term_match.proofs.cells.Cells.+match_part.Given as goal

abbrev pub decreases-match_part : goal.decreases-match_part
decreases-match_part g l = 3 * resolved_pattern_depth l.pattern.now

abbrev pub decreases-match_bare : goal.decreases-match_bare
decreases-match_bare g l = 3 * resolved_pattern_depth l.pattern.now + 1

abbrev pub decreases-match_rest : goal.decreases-match_rest
decreases-match_rest g l = 3 * resolved_pattern_depth l.pattern.now + 1

abbrev pub decreases-match_child : goal.decreases-match_child
decreases-match_child g l = 3 * resolved_pattern_depth l.pattern.now + 1

abbrev pub decreases-match_children : goal.decreases-match_children
decreases-match_children g l = 3 * resolved_patterns_depth (resolved_patterns_of l.patterns.now) + 2

abbrev pub decreases-match_annotations : goal.decreases-match_annotations
decreases-match_annotations g l = 3 * resolved_patterns_depth (resolved_patterns_of l.patterns.now) + 2

abbrev pub invariant-match_children-loop-i : goal.invariant-match_children-loop-i
invariant-match_children-loop-i g l = record {
  matched : matched_from l.patterns (take (length l.patterns) (children l.value)) (g.P.VariableCells.cells l.variables)
      l.i l.self.bindings
      ≡ match_patterns (resolved_patterns_of l.patterns) (take (length l.patterns) (children l.value))
      (g.P.VariableCells.cells l.variables) l.initial.self.bindings;
  grows : Grows l.initial.self l.self;
}

abbrev pub invariant-match_annotations-loop-i : goal.invariant-match_annotations-loop-i
invariant-match_annotations-loop-i g l = record {
  matched : matched_from l.patterns l.annotations.items (g.P.VariableCells.cells l.variables) l.i l.self.bindings
      ≡ match_patterns (resolved_patterns_of l.patterns) l.annotations.items (g.P.VariableCells.cells l.variables)
      l.initial.self.bindings;
  grows : Grows l.initial.self l.self;
}
