-- Laws of lists of resolved strategies, and of their depth.
use Rattle.std.proofs.Common.{◌≡◌, ℕ, zero, suc, ◌≤◌, ◌<◌, List, [], ◌∷◌, length, get_or, refl, ap, arith}
use Rattle.strategy_syntax.specs.Resolved.{ResolvedStrategy, ResolvedStrategies, no_strategies, and_strategy, resolved_list, resolveds_of}
use Rattle.strategy_syntax.specs.inside.ResolvedDepth.{depth, depths}

pub resolved_list-resolveds_of : (ss : List ResolvedStrategy) → resolved_list (resolveds_of ss) ≡ ss
resolved_list-resolveds_of [] = refl
resolved_list-resolveds_of (s ∷ ss) = ap (λ l. s ∷ l) (resolved_list-resolveds_of ss)

pub resolveds_of-resolved_list : (ss : ResolvedStrategies) → resolveds_of (resolved_list ss) ≡ ss
resolveds_of-resolved_list no_strategies = refl
resolveds_of-resolved_list (and_strategy s ss) =
    ap (and_strategy s) (resolveds_of-resolved_list ss)

-- a strategy of a list is no deeper than the list
pub depths-item : (ss : List ResolvedStrategy) (i : ℕ) (s : ResolvedStrategy) → i < length ss
    → s ≡ get_or ss i s → depth s ≤ depths (resolveds_of ss)
depths-item [] i s h e = absurd (omega arith)
depths-item (r ∷ ss) zero s h e = omega (arith, ap depth e)
depths-item (r ∷ ss) (suc i) s h e =
    let below : i < length ss = omega arith in omega (arith, depths-item ss i s below e)
