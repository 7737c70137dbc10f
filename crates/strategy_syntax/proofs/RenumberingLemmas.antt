-- Renumbering strategies one by one.
use Rattle.std.proofs.Common.{◌≡◌, ℕ, suc, zero, ◌<◌, ◌≤◌, List, [], ◌∷◌, length, slice_set, get_or, refl, ap, arith}
use Rattle.strategy_syntax.specs.Resolved.{ResolvedStrategy, resolveds_of, and_strategy}
use Rattle.strategy_syntax.specs.Renumbering.{renumbered, all_renumbered}
use Rattle.strategy_syntax.specs.inside.ResolvedDepth.{depth, depths}

-- the first i renumbered, and the others as they were
abbrev pub partly : List ℕ → ℕ → List ResolvedStrategy → List ResolvedStrategy
partly numbers i [] = []
partly numbers zero (s ∷ ss) = s ∷ ss
partly numbers (suc i) (s ∷ ss) = renumbered numbers s ∷ partly numbers i ss

pub partly-none : (numbers : List ℕ) (ss : List ResolvedStrategy) → ss ≡ partly numbers 0 ss
partly-none numbers [] = refl
partly-none numbers (s ∷ ss) = refl

pub partly-length : (numbers : List ℕ) (i : ℕ) (ss : List ResolvedStrategy) → length (partly numbers i ss) ≡ length ss
partly-length numbers i [] = refl
partly-length numbers zero (s ∷ ss) = refl
partly-length numbers (suc i) (s ∷ ss) = ap suc (partly-length numbers i ss)

pub partly-all : (numbers : List ℕ) (i : ℕ) (ss : List ResolvedStrategy) → length ss ≤ i
    → resolveds_of (partly numbers i ss) ≡ all_renumbered numbers (resolveds_of ss)
partly-all numbers i [] h = refl
partly-all numbers zero (s ∷ ss) h = absurd (omega (arith, h))
partly-all numbers (suc i) (s ∷ ss) h =
    ap (λ r. and_strategy (renumbered numbers s) r) (partly-all numbers i ss (omega (arith, h)))

-- the element at i is the original one
pub partly-at : (numbers : List ℕ) (i : ℕ) (ss : List ResolvedStrategy) (d : ResolvedStrategy) → i < length ss
    → get_or (partly numbers i ss) i d ≡ get_or ss i d
partly-at numbers i [] d h = absurd (omega (arith, h))
partly-at numbers zero (s ∷ ss) d h = refl
partly-at numbers (suc i) (s ∷ ss) d h = partly-at numbers i ss d (omega (arith, h))

pub partly-set : (numbers : List ℕ) (i : ℕ) (ss : List ResolvedStrategy) (d : ResolvedStrategy) → i < length ss
    → slice_set (partly numbers i ss) i (renumbered numbers (get_or ss i d)) ≡ partly numbers (suc i) ss
partly-set numbers i [] d h = absurd (omega (arith, h))
partly-set numbers zero (s ∷ ss) d h = ap (λ r. renumbered numbers s ∷ r) (partly-none numbers ss)
partly-set numbers (suc i) (s ∷ ss) d h =
    ap (λ r. renumbered numbers s ∷ r) (partly-set numbers i ss d (omega (arith, h)))

pub shallow : (i : ℕ) (ss : List ResolvedStrategy) (d : ResolvedStrategy) → i < length ss
    → depth (get_or ss i d) ≤ depths (resolveds_of ss)
shallow i [] d h = absurd (omega (arith, h))
shallow zero (s ∷ ss) d h = omega (arith)
shallow (suc i) (s ∷ ss) d h = omega (arith, shallow i ss d (omega (arith, h)))
