-- What the forms of a strategy represent.
use Rattle.strategy_syntax.specs.Syntax.{patterns_of, Strategy, id, fail, matches, builds, seq, guard, test, scope, uses, congruence, tail_congruence, all, one, some, child, rec, prim, strategies_of}
use Rattle.strategy_syntax.specs.Heads.{head_of}
use Rattle.strategy_syntax.specs.declared.strategy.StrategyForm.{StrategyForm}
use Rattle.strategy_syntax.specs.declared.strategy.StrategyForm.TheVariants.{Id, Fail, Match, Build, Seq, Guard, Test, Scope, Use, Congruence, TailCongruence, All, One, Some, Child, Rec, Prim}

abbrev pub strategy_of : StrategyForm → Strategy
strategy_of Id = id
strategy_of Fail = fail
strategy_of (Match p) = matches p
strategy_of (Build p) = builds p
strategy_of (Seq parts) = seq parts.value.0 parts.value.1
strategy_of (Guard parts) = guard parts.value.0 parts.value.1 parts.value.2
strategy_of (Test s) = test s.value
strategy_of (Scope xs s) = scope xs.items s.value
strategy_of (Use f ss ps) = uses f (strategies_of ss.items) (patterns_of ps.items)
strategy_of (Congruence h ss) = congruence (head_of h) (strategies_of ss.items)
strategy_of (TailCongruence ss s) = tail_congruence (strategies_of ss.items) s.value
strategy_of (All s) = all s.value
strategy_of (One s) = one s.value
strategy_of (Some s) = some s.value
strategy_of (Child i s) = child i s.value
strategy_of (Rec x s) = rec x s.value
strategy_of (Prim n ps) = prim n (patterns_of ps.items)
