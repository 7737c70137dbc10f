use Rattle.std.proofs.Common.{◌≡◌, length, take}
use Rattle.term_core.specs.Tree.{children}
use Rattle.term_changes.specs.Standing.{standing_tree}
use Rattle.strategy_syntax.specs.Resolved.{resolved_patterns_of}
use Rattle.strategy_meaning.specs.Matching.{match_patterns}
use Rattle.term_match.specs.inside.Growing.{Grows}
use Rattle.term_match.proofs.MatchLemmas.{matched_from}
use Rattle.term_match.proofs.cells.Cells.match_parts.Given as goal

abbrev pub invariant-loop-i : goal.invariant-loop-i
invariant-loop-i g l = record {
  matched : matched_from l.patterns (take (length l.patterns) (children (standing_tree l.part)))
      (g.P.VariableCells.cells l.variables) l.i l.self.bindings
      ≡ match_patterns (resolved_patterns_of l.patterns) (take (length l.patterns) (children (standing_tree l.part)))
      (g.P.VariableCells.cells l.variables) l.initial.self.bindings;
  grows : Grows l.initial.self l.self;
}
