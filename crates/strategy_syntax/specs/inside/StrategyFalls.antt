-- The parts of a strategy have less depth.
use Rattle.std.specs.Prelude.{◌≤◌, ◌+◌, List, [], ◌∷◌, max}
use Rattle.std.proofs.Common.{arith}
use denote.Param.Weighed.{most}
use Rattle.strategy_syntax.specs.Syntax.{Strategy, strategies_of}
use Rattle.strategy_syntax.specs.declared.strategy.StrategyForm.{StrategyForm}
use Rattle.strategy_syntax.specs.declared.strategy.StrategyForm.TheVariants.{Id, Fail, Match, Build, Seq, Guard, Test, Scope, Use, Congruence, TailCongruence, All, One, Some, Child, Rec, Prim}
use Rattle.strategy_syntax.specs.declared.strategy.Strategy.TheDeep.{deep-StrategyForm}
use Rattle.strategy_syntax.specs.StrategyView.{strategy_of}
use Rattle.strategy_syntax.specs.inside.StrategyDepth.{depth, depths}

pub most_le-strategies : (ss : List Strategy)
    → most (λ s. depth s + 1) ss ≤ depths (strategies_of ss) + 1
most_le-strategies [] = omega arith
most_le-strategies (s ∷ ss) = omega (arith, most_le-strategies ss)

pub depth_le-strategy : (n : StrategyForm) → max (deep-StrategyForm n) 0 ≤ depth (strategy_of n)
depth_le-strategy Id = omega arith
depth_le-strategy Fail = omega arith
depth_le-strategy (Match p) = omega arith
depth_le-strategy (Build p) = omega arith
depth_le-strategy (Seq parts) = omega arith
depth_le-strategy (Guard parts) = omega arith
depth_le-strategy (Test s) = omega arith
depth_le-strategy (Scope xs s) = omega arith
depth_le-strategy (Use f ss ps) = omega (arith, most_le-strategies ss.items)
depth_le-strategy (Congruence h ss) = omega (arith, most_le-strategies ss.items)
depth_le-strategy (TailCongruence ss s) = omega (arith, most_le-strategies ss.items)
depth_le-strategy (All s) = omega arith
depth_le-strategy (One s) = omega arith
depth_le-strategy (Some s) = omega arith
depth_le-strategy (Child i s) = omega arith
depth_le-strategy (Rec x s) = omega arith
depth_le-strategy (Prim n ps) = omega arith
