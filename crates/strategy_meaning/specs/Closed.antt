-- Strategies that need no cell of their caller, so that they run the same wherever they are called.
use Rattle.std.specs.Prelude.{◌≡◌, ◌≤◌, ℕ, zero, suc, ◌+◌, nat_le, Bool, true, ◌&&◌, List, [], ◌∷◌, length, ⊤}
use Rattle.term_core.specs.Tree.{Tree}
use Rattle.strategy_syntax.specs.Resolved.{ResolvedPattern, wildcard, variable, at, number, compound, with_tail, annotated, ResolvedPatterns, no_resolved_patterns, and_resolved_pattern, ResolvedStrategy, id, fail, matches, builds, seq, guard, test, scope, param, call, congruence, tail_congruence, all, one, some, child, rec, prim, ResolvedStrategies, no_strategies, and_strategy}
use Rattle.strategy_meaning.specs.Scopes.{Scope, inside, Closures, no_closures, and_closure}
use Rattle.strategy_meaning.specs.Matching.{Bindings}
use Rattle.strategy_meaning.specs.Answer.{Answer, done, failed, stopped, spent, big}
use Rattle.strategy_meaning.specs.Meaning.{World, run}
use Rattle.strategy_meaning.specs.Laws.{in_room}

-- no variable in the pattern has a number below m
abbrev mutual
  pub pattern_from : ℕ → ResolvedPattern → Bool
  pattern_from m wildcard = true
  pattern_from m (variable x) = nat_le m x
  pattern_from m (at x p) = nat_le m x && pattern_from m p
  pattern_from m (number z) = true
  pattern_from m (compound h ps) = patterns_from m ps
  pattern_from m (with_tail ps p) = patterns_from m ps && pattern_from m p
  pattern_from m (annotated p ps) = pattern_from m p && patterns_from m ps

  pub patterns_from : ℕ → ResolvedPatterns → Bool
  patterns_from m no_resolved_patterns = true
  patterns_from m (and_resolved_pattern p ps) = pattern_from m p && patterns_from m ps

-- no variable in the strategy has a number below m
abbrev mutual
  pub strategy_from : ℕ → ResolvedStrategy → Bool
  strategy_from m id = true
  strategy_from m fail = true
  strategy_from m (matches p) = pattern_from m p
  strategy_from m (builds p) = pattern_from m p
  strategy_from m (seq s1 s2) = strategy_from m s1 && strategy_from m s2
  strategy_from m (guard s1 s2 s3) =
      strategy_from m s1 && (strategy_from m s2 && strategy_from m s3)
  strategy_from m (test s) = strategy_from m s
  strategy_from m (scope n s) = strategy_from m s
  strategy_from m (param x) = true
  strategy_from m (call f ss ps) = strategies_from m ss && patterns_from m ps
  strategy_from m (congruence h ss) = strategies_from m ss
  strategy_from m (tail_congruence ss s) = strategies_from m ss && strategy_from m s
  strategy_from m (all s) = strategy_from m s
  strategy_from m (one s) = strategy_from m s
  strategy_from m (some s) = strategy_from m s
  strategy_from m (child n s) = strategy_from m s
  strategy_from m (rec s) = strategy_from m s
  strategy_from m (prim n ps) = patterns_from m ps

  pub strategies_from : ℕ → ResolvedStrategies → Bool
  strategies_from m no_strategies = true
  strategies_from m (and_strategy s ss) = strategy_from m s && strategies_from m ss

-- ---- the scopes of two runs, whose callers have p and q cells

-- The variables from m on have the same cells, counted from those of the callers on.
abbrev pub CellsMatch : ℕ → ℕ → ℕ → List ℕ → List ℕ → Type 0
CellsMatch p q m [] [] = ⊤
CellsMatch p q m [] (d ∷ ds) = ⊥
CellsMatch p q m (c ∷ cs) [] = ⊥
CellsMatch p q zero (c ∷ cs) (d ∷ ds) =
    ((k : ℕ) × (c ≡ p + k) × (d ≡ q + k)) × CellsMatch p q zero cs ds
CellsMatch p q (suc m) (c ∷ cs) (d ∷ ds) = CellsMatch p q m cs ds

-- The names stand for the same strategies, which use no other variables, and of whose scopes all
-- this holds, too.
abbrev mutual
  pub ScopesMatch : ℕ → ℕ → ℕ → Scope → Scope → Type 0
  ScopesMatch p q m (inside cs ns) (inside ds ms) = CellsMatch p q m cs ds × NamesMatch p q ns ms

  pub NamesMatch : ℕ → ℕ → Closures → Closures → Type 0
  NamesMatch p q no_closures no_closures = ⊤
  NamesMatch p q no_closures (and_closure r F ms) = ⊥
  NamesMatch p q (and_closure s E ns) no_closures = ⊥
  NamesMatch p q (and_closure s E ns) (and_closure r F ms) =
      (s ≡ r) × ((m : ℕ) × (strategy_from m s ≡ true) × ScopesMatch p q m E F)
      × NamesMatch p q ns ms

-- ---- the law

-- The answer of the first run tells that of the second, unless a term was too big. The bindings of
-- the callers are B and C.
abbrev pub Tells : Bindings → Bindings → Answer → Answer → Type 0
Tells B C (done u D c e) a = (D ≡ B) × (a ≡ done u C c e)
Tells B C (failed c) a = a ≡ failed c
Tells B C (stopped spent) a = a ≡ stopped spent
Tells B C (stopped big) a = ⊤

-- A strategy that needs no cell of its caller has the same answer at a level that isn't deeper,
-- whatever the caller has bound. If it builds nothing, as where no term fits, so it has at each
-- level.
abbrev pub ClosedRunsAreTheSame : Type 0
ClosedRunsAreTheSame = (W : World) (E F : Scope) (m k l : ℕ) (s : ResolvedStrategy) (b : ℕ) (B C : Bindings) (t : Tree)
    → strategy_from m s ≡ true → ScopesMatch (length B) (length C) m E F
    → (l ≤ k → Tells B C (run W E k s b B t) (run W F l s b C t))
    × Tells B C (run (in_room 0 W) E k s b B t) (run W F l s b C t)
