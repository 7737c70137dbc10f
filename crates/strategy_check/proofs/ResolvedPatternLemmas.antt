-- Lists of resolved patterns under construction.
use Rattle.std.proofs.Common.{◌≡◌, ℕ, ◌+◌, ◌<◌, List, [], ◌∷◌, ◌++◌, length, get_or, take, add-one, refl, sym, ap, ◌∙◌}
use Rattle.std.proofs.Math.Seq.{take-suc}
use Rattle.strategy_syntax.specs.Syntax.{Pattern, patterns_of}
use Rattle.strategy_syntax.specs.Resolved.{ResolvedPattern, ResolvedPatterns, no_resolved_patterns, and_resolved_pattern, resolved_patterns_of}
use Rattle.strategy_syntax.proofs.PatternLemmas.{patterns_depth-item}
use Rattle.strategy_names.specs.Binders.{Binder}
use Rattle.strategy_check.specs.Resolving.{resolved_pattern, resolved_patterns}

pub ruleset resolved_pattern_rules = (patterns_depth-item)

abbrev then_resolved_patterns : ResolvedPatterns → ResolvedPatterns → ResolvedPatterns
then_resolved_patterns no_resolved_patterns qs = qs
then_resolved_patterns (and_resolved_pattern p ps) qs = and_resolved_pattern p (then_resolved_patterns ps qs)

resolved_patterns_of-append : (ps qs : List ResolvedPattern)
    → resolved_patterns_of (ps ++ qs) ≡ then_resolved_patterns (resolved_patterns_of ps) (resolved_patterns_of qs)
resolved_patterns_of-append [] qs = refl
resolved_patterns_of-append (p ∷ ps) qs = ap (and_resolved_pattern p) (resolved_patterns_of-append ps qs)

resolved_patterns-append : (bs : List Binder) (ps qs : List Pattern) → resolved_patterns bs (patterns_of (ps ++ qs))
    ≡ then_resolved_patterns (resolved_patterns bs (patterns_of ps)) (resolved_patterns bs (patterns_of qs))
resolved_patterns-append bs [] qs = refl
resolved_patterns-append bs (p ∷ ps) qs =
    ap (and_resolved_pattern (resolved_pattern bs p)) (resolved_patterns-append bs ps qs)

-- one more pattern
pub resolved_patterns-next : (bs : List Binder) (ps : List Pattern) (made more : List ResolvedPattern)
    (r : ResolvedPattern) (i : ℕ) (p : Pattern) → i < length ps → p ≡ get_or ps i p
    → resolved_patterns_of made ≡ resolved_patterns bs (patterns_of (take i ps))
    → more ≡ made ++ r ∷ [] → r ≡ resolved_pattern bs p
    → resolved_patterns_of more ≡ resolved_patterns bs (patterns_of (take (i + 1) ps))
resolved_patterns-next bs ps made more r i p lt at same e is =
    rw add-one (ap resolved_patterns_of e ∙ resolved_patterns_of-append made (r ∷ [])
    ∙ (λ j. then_resolved_patterns (same j) (and_resolved_pattern (is j) no_resolved_patterns))
    ∙ sym (resolved_patterns-append bs (take i ps) (p ∷ []))
    ∙ ap (λ l. resolved_patterns bs (patterns_of l)) (ap (λ q. take i ps ++ q ∷ []) at ∙ sym (take-suc ps i p lt)))
