-- Laws of lists of resolved patterns, and of their depth.
use Rattle.std.proofs.Common.{◌≡◌, ℕ, zero, suc, ◌≤◌, ◌<◌, List, [], ◌∷◌, length, get_or, refl, ap, arith}
use Rattle.strategy_syntax.specs.Resolved.{ResolvedPattern, ResolvedPatterns, no_resolved_patterns, and_resolved_pattern, resolved_pattern_list, resolved_patterns_of}
use Rattle.strategy_syntax.specs.inside.ResolvedPatternDepth.{resolved_pattern_depth, resolved_patterns_depth}

pub resolved_pattern_list-of : (ps : List ResolvedPattern) → resolved_pattern_list (resolved_patterns_of ps) ≡ ps
resolved_pattern_list-of [] = refl
resolved_pattern_list-of (p ∷ ps) = ap (λ l. p ∷ l) (resolved_pattern_list-of ps)

pub resolved_patterns_of-list : (ps : ResolvedPatterns) → resolved_patterns_of (resolved_pattern_list ps) ≡ ps
resolved_patterns_of-list no_resolved_patterns = refl
resolved_patterns_of-list (and_resolved_pattern p ps) = ap (and_resolved_pattern p) (resolved_patterns_of-list ps)

-- a resolved pattern of a list is no deeper than the list
pub resolved_patterns_depth-item : (ps : List ResolvedPattern) (i : ℕ) (p : ResolvedPattern) → i < length ps
    → p ≡ get_or ps i p → resolved_pattern_depth p ≤ resolved_patterns_depth (resolved_patterns_of ps)
resolved_patterns_depth-item [] i p h e = absurd (omega arith)
resolved_patterns_depth-item (q ∷ ps) zero p h e = omega (arith, ap resolved_pattern_depth e)
resolved_patterns_depth-item (q ∷ ps) (suc i) p h e =
    let below : i < length ps = omega arith in omega (arith, resolved_patterns_depth-item ps i p below e)
