-- The variables of patterns.
use Rattle.std.specs.Prelude.{List, [], ◌∷◌, ◌++◌}
use Rattle.term_core.specs.Tree.{Symbol}
use Rattle.strategy_syntax.specs.Syntax.{Pattern, wildcard, variable, at, number, compound, with_tail, annotated, Patterns, no_patterns, and_pattern}

-- the variables of a pattern: its own first, then those of its parts from left to right, then those
-- of its annotations
abbrev mutual
  pub variables : Pattern → List Symbol
  variables wildcard = []
  variables (variable x) = x ∷ []
  variables (at x p) = x ∷ variables p
  variables (number z) = []
  variables (compound h ps) = variables_of_all ps
  variables (with_tail ps p) = variables_of_all ps ++ variables p
  variables (annotated p ps) = variables p ++ variables_of_all ps

  pub variables_of_all : Patterns → List Symbol
  variables_of_all no_patterns = []
  variables_of_all (and_pattern p ps) = variables p ++ variables_of_all ps
