-- What the forms of a resolved pattern represent.
use Rattle.strategy_syntax.specs.Resolved.{ResolvedPattern, wildcard, variable, at, number, compound, with_tail, annotated, resolved_patterns_of}
use Rattle.strategy_syntax.specs.Heads.{head_of}
use Rattle.strategy_syntax.specs.declared.resolved_pattern.ResolvedPatternForm.{ResolvedPatternForm}
use Rattle.strategy_syntax.specs.declared.resolved_pattern.ResolvedPatternForm.TheVariants.{Wildcard, Variable, At, Integer, Compound, WithTail, Annotated}

abbrev pub resolved_pattern_of : ResolvedPatternForm → ResolvedPattern
resolved_pattern_of Wildcard = wildcard
resolved_pattern_of (Variable x) = variable x
resolved_pattern_of (At x p) = at x p.value
resolved_pattern_of (Integer z) = number z
resolved_pattern_of (Compound h ps) = compound (head_of h) (resolved_patterns_of ps.items)
resolved_pattern_of (WithTail ps p) = with_tail (resolved_patterns_of ps.items) p.value
resolved_pattern_of (Annotated p ps) = annotated p.value (resolved_patterns_of ps.items)
