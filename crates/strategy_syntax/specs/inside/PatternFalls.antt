-- The parts of a pattern have less depth.
use Rattle.std.specs.Prelude.{◌≤◌, ◌+◌, List, [], ◌∷◌, max}
use Rattle.std.proofs.Common.{arith}
use denote.Param.Weighed.{most}
use Rattle.strategy_syntax.specs.Syntax.{Pattern, patterns_of}
use Rattle.strategy_syntax.specs.declared.pattern.PatternForm.{PatternForm}
use Rattle.strategy_syntax.specs.declared.pattern.PatternForm.TheVariants.{Wildcard, Variable, At, Integer, Compound, WithTail, Annotated}
use Rattle.strategy_syntax.specs.declared.pattern.Pattern.TheDeep.{deep-PatternForm}
use Rattle.strategy_syntax.specs.PatternView.{pattern_of}
use Rattle.strategy_syntax.specs.inside.PatternDepth.{pattern_depth, patterns_depth}

pub most_le-patterns : (ps : List Pattern)
    → most (λ p. pattern_depth p + 1) ps ≤ patterns_depth (patterns_of ps) + 1
most_le-patterns [] = omega arith
most_le-patterns (p ∷ ps) = omega (arith, most_le-patterns ps)

pub depth_le-pattern : (n : PatternForm)
    → max (deep-PatternForm n) 0 ≤ pattern_depth (pattern_of n)
depth_le-pattern Wildcard = omega arith
depth_le-pattern (Variable x) = omega arith
depth_le-pattern (At x p) = omega arith
depth_le-pattern (Integer z) = omega arith
depth_le-pattern (Compound h ps) = omega (arith, most_le-patterns ps.items)
depth_le-pattern (WithTail ps p) = omega (arith, most_le-patterns ps.items)
depth_le-pattern (Annotated p ps) = omega (arith, most_le-patterns ps.items)
