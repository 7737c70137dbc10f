-- The parts of a resolved pattern have less depth.
use Rattle.std.specs.Prelude.{◌≤◌, ◌+◌, List, [], ◌∷◌, max}
use Rattle.std.proofs.Common.{arith}
use denote.Param.Weighed.{most}
use Rattle.strategy_syntax.specs.Resolved.{ResolvedPattern, resolved_patterns_of}
use Rattle.strategy_syntax.specs.declared.resolved_pattern.ResolvedPatternForm.{ResolvedPatternForm}
use Rattle.strategy_syntax.specs.declared.resolved_pattern.ResolvedPatternForm.TheVariants.{Wildcard, Variable, At, Integer, Compound, WithTail, Annotated}
use Rattle.strategy_syntax.specs.declared.resolved_pattern.ResolvedPattern.TheDeep.{deep-ResolvedPatternForm}
use Rattle.strategy_syntax.specs.ResolvedPatternView.{resolved_pattern_of}
use Rattle.strategy_syntax.specs.inside.ResolvedPatternDepth.{resolved_pattern_depth, resolved_patterns_depth}

pub most_le-resolved_patterns : (ps : List ResolvedPattern)
    → most (λ p. resolved_pattern_depth p + 1) ps ≤ resolved_patterns_depth (resolved_patterns_of ps) + 1
most_le-resolved_patterns [] = omega arith
most_le-resolved_patterns (p ∷ ps) = omega (arith, most_le-resolved_patterns ps)

pub depth_le-resolved_pattern : (n : ResolvedPatternForm)
    → max (deep-ResolvedPatternForm n) 0 ≤ resolved_pattern_depth (resolved_pattern_of n)
depth_le-resolved_pattern Wildcard = omega arith
depth_le-resolved_pattern (Variable x) = omega arith
depth_le-resolved_pattern (At x p) = omega arith
depth_le-resolved_pattern (Integer z) = omega arith
depth_le-resolved_pattern (Compound h ps) = omega (arith, most_le-resolved_patterns ps.items)
depth_le-resolved_pattern (WithTail ps p) = omega (arith, most_le-resolved_patterns ps.items)
depth_le-resolved_pattern (Annotated p ps) = omega (arith, most_le-resolved_patterns ps.items)
