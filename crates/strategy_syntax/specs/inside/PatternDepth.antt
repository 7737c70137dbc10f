-- The depth of patterns.
use Rattle.std.specs.Prelude.{ℕ, max}
use Rattle.std.proofs.Common.{suc}
use Rattle.strategy_syntax.specs.Syntax.{Pattern, wildcard, variable, at, number, compound, with_tail, annotated, Patterns, no_patterns, and_pattern}

-- the depth of nested patterns
abbrev mutual
  pub pattern_depth : Pattern → ℕ
  pattern_depth wildcard = 1
  pattern_depth (variable x) = 1
  pattern_depth (at x p) = suc (pattern_depth p)
  pattern_depth (number z) = 1
  pattern_depth (compound h ps) = suc (patterns_depth ps)
  pattern_depth (with_tail ps p) = suc (max (patterns_depth ps) (pattern_depth p))
  pattern_depth (annotated p ps) = suc (max (pattern_depth p) (patterns_depth ps))

  pub patterns_depth : Patterns → ℕ
  patterns_depth no_patterns = 0
  patterns_depth (and_pattern p ps) = max (pattern_depth p) (patterns_depth ps)
