-- Heads of patterns and of terms.
use Rattle.std.specs.Prelude.{◌≡◌, true}
use Rattle.term_core.specs.Tree.{Tree}
use Rattle.strategy_syntax.specs.Resolved.{ResolvedPattern, wildcard, variable, at, number, compound, with_tail, annotated}
use Rattle.strategy_meaning.specs.Matching.{is_headed}

-- whether the term's head is the pattern's, if the pattern is one over parts
abbrev pub SharesHead : ResolvedPattern → Tree → Type 0
SharesHead wildcard t = Unit {0}
SharesHead (variable x) t = Unit {0}
SharesHead (at x p) t = Unit {0}
SharesHead (number z) t = Unit {0}
SharesHead (compound h ps) t = is_headed h t ≡ true
SharesHead (with_tail ps p) t = Unit {0}
SharesHead (annotated p ps) t = Unit {0}
