-- The depth of strategies.
use Rattle.std.specs.Prelude.{ℕ, max}
use Rattle.std.proofs.Common.{suc}
use Rattle.strategy_syntax.specs.Syntax.{Strategy, id, fail, matches, builds, seq, guard, test, scope, uses, congruence, tail_congruence, all, one, some, child, rec, prim, Strategies, no_strategies, and_strategy}

-- the depth of nested strategies
abbrev mutual
  pub depth : Strategy → ℕ
  depth id = 1
  depth fail = 1
  depth (matches p) = 1
  depth (builds p) = 1
  depth (seq a b) = suc (max (depth a) (depth b))
  depth (guard a b c) = suc (max (depth a) (max (depth b) (depth c)))
  depth (test a) = suc (depth a)
  depth (scope xs a) = suc (depth a)
  depth (uses f ss ps) = suc (depths ss)
  depth (congruence h ss) = suc (depths ss)
  depth (tail_congruence ss a) = suc (max (depths ss) (depth a))
  depth (all a) = suc (depth a)
  depth (one a) = suc (depth a)
  depth (some a) = suc (depth a)
  depth (child i a) = suc (depth a)
  depth (rec x a) = suc (depth a)
  depth (prim n ps) = 1

  pub depths : Strategies → ℕ
  depths no_strategies = 0
  depths (and_strategy s ss) = max (depth s) (depths ss)
