-- The depth of resolved patterns.
use Rattle.std.specs.Prelude.{ℕ, max}
use Rattle.std.proofs.Common.{suc}
use Rattle.strategy_syntax.specs.Resolved.{ResolvedPattern, wildcard, variable, at, number, compound, with_tail, annotated, ResolvedPatterns, no_resolved_patterns, and_resolved_pattern}

-- the depth of nested patterns
abbrev mutual
  pub resolved_pattern_depth : ResolvedPattern → ℕ
  resolved_pattern_depth wildcard = 1
  resolved_pattern_depth (variable x) = 1
  resolved_pattern_depth (at x p) = suc (resolved_pattern_depth p)
  resolved_pattern_depth (number z) = 1
  resolved_pattern_depth (compound h ps) = suc (resolved_patterns_depth ps)
  resolved_pattern_depth (with_tail ps p) = suc (max (resolved_patterns_depth ps) (resolved_pattern_depth p))
  resolved_pattern_depth (annotated p ps) = suc (max (resolved_pattern_depth p) (resolved_patterns_depth ps))

  pub resolved_patterns_depth : ResolvedPatterns → ℕ
  resolved_patterns_depth no_resolved_patterns = 0
  resolved_patterns_depth (and_resolved_pattern p ps) = max (resolved_pattern_depth p) (resolved_patterns_depth ps)
