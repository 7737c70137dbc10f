-- What the forms of a pattern represent.
use Rattle.strategy_syntax.specs.Syntax.{Pattern, wildcard, variable, at, number, compound, with_tail, annotated, patterns_of}
use Rattle.strategy_syntax.specs.Heads.{head_of}
use Rattle.strategy_syntax.specs.declared.pattern.PatternForm.{PatternForm}
use Rattle.strategy_syntax.specs.declared.pattern.PatternForm.TheVariants.{Wildcard, Variable, At, Integer, Compound, WithTail, Annotated}

abbrev pub pattern_of : PatternForm → Pattern
pattern_of Wildcard = wildcard
pattern_of (Variable x) = variable x
pattern_of (At x p) = at x p.value
pattern_of (Integer z) = number z
pattern_of (Compound h ps) = compound (head_of h) (patterns_of ps.items)
pattern_of (WithTail ps p) = with_tail (patterns_of ps.items) p.value
pattern_of (Annotated p ps) = annotated p.value (patterns_of ps.items)
