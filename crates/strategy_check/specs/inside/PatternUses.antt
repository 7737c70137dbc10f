-- What a pattern is for, as the faults are told it.
use Rattle.std.specs.Prelude.{Bool, true, false}
use Rattle.strategy_check.specs.declared.patterns.PatternUse.{PatternUse}
use Rattle.strategy_check.specs.declared.patterns.PatternUse.TheVariants.{Match, Build}

abbrev pub is_built : PatternUse → Bool
is_built Match = false
is_built Build = true
