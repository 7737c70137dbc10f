-- Laws of lists of patterns, and of their depth.
use Rattle.std.proofs.Common.{◌≡◌, ℕ, zero, suc, ◌≤◌, ◌<◌, List, [], ◌∷◌, length, get_or, refl, sym, ap, ◌∙◌, arith}
use Rattle.strategy_syntax.specs.Syntax.{Pattern, Patterns, no_patterns, and_pattern, pattern_list, patterns_of}
use Rattle.strategy_syntax.specs.inside.PatternDepth.{pattern_depth, patterns_depth}

pub pattern_list-patterns_of : (ps : List Pattern) → pattern_list (patterns_of ps) ≡ ps
pattern_list-patterns_of [] = refl
pattern_list-patterns_of (p ∷ ps) = ap (λ l. p ∷ l) (pattern_list-patterns_of ps)

pub patterns_of-pattern_list : (ps : Patterns) → patterns_of (pattern_list ps) ≡ ps
patterns_of-pattern_list no_patterns = refl
patterns_of-pattern_list (and_pattern p ps) = ap (and_pattern p) (patterns_of-pattern_list ps)

-- equal lists have equal patterns
pub patterns_of-only : (ps qs : List Pattern) → patterns_of ps ≡ patterns_of qs → ps ≡ qs
patterns_of-only ps qs e =
    sym (pattern_list-patterns_of ps) ∙ ap pattern_list e ∙ pattern_list-patterns_of qs

-- a pattern of a list is no deeper than the list
pub patterns_depth-item : (ps : List Pattern) (i : ℕ) (p : Pattern) → i < length ps
    → p ≡ get_or ps i p → pattern_depth p ≤ patterns_depth (patterns_of ps)
patterns_depth-item [] i p h e = absurd (omega arith)
patterns_depth-item (q ∷ ps) zero p h e = omega (arith, ap pattern_depth e)
patterns_depth-item (q ∷ ps) (suc i) p h e =
    let below : i < length ps = omega arith in omega (arith, patterns_depth-item ps i p below e)

pub ruleset pattern_parts = (pattern_list-patterns_of, patterns_of-pattern_list, patterns_of-only, patterns_depth-item)
