-- Laws of lists of strategies, and of their depth.
use Rattle.std.proofs.Common.{◌≡◌, ℕ, zero, suc, ◌≤◌, ◌<◌, List, [], ◌∷◌, length, get_or, refl, sym, ap, ◌∙◌, arith}
use Rattle.strategy_syntax.specs.Syntax.{Strategy, Strategies, no_strategies, and_strategy, strategy_list, strategies_of}
use Rattle.strategy_syntax.specs.inside.StrategyDepth.{depth, depths}
use Rattle.strategy_syntax.proofs.PatternLemmas.{patterns_of-only}

pub strategy_list-strategies_of : (ss : List Strategy) → strategy_list (strategies_of ss) ≡ ss
strategy_list-strategies_of [] = refl
strategy_list-strategies_of (s ∷ ss) = ap (λ l. s ∷ l) (strategy_list-strategies_of ss)

pub strategies_of-strategy_list : (ss : Strategies) → strategies_of (strategy_list ss) ≡ ss
strategies_of-strategy_list no_strategies = refl
strategies_of-strategy_list (and_strategy s ss) = ap (and_strategy s) (strategies_of-strategy_list ss)

-- equal lists have equal strategies
pub strategies_of-only : (ss ts : List Strategy) → strategies_of ss ≡ strategies_of ts → ss ≡ ts
strategies_of-only ss ts e =
    sym (strategy_list-strategies_of ss) ∙ ap strategy_list e ∙ strategy_list-strategies_of ts

-- a strategy of a list is no deeper than the list
pub depths-item : (ss : List Strategy) (i : ℕ) (s : Strategy) → i < length ss
    → s ≡ get_or ss i s → depth s ≤ depths (strategies_of ss)
depths-item [] i s h e = absurd (omega arith)
depths-item (r ∷ ss) zero s h e = omega (arith, ap depth e)
depths-item (r ∷ ss) (suc i) s h e =
    let below : i < length ss = omega arith in omega (arith, depths-item ss i s below e)

pub ruleset strategy_parts = (strategies_of-only, patterns_of-only, depths-item)
