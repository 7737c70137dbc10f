-- When each number in a resolved strategy is in range.
use Rattle.std.specs.Prelude.{◌≡◌, ℕ, suc, ◌+◌, ◌<◌, List, length, slice_get, IsSomeAnd, Some, ⊤}
use Rattle.strategy_syntax.specs.Resolved.{ResolvedPattern, wildcard, variable, at, number, compound, with_tail, annotated, ResolvedPatterns, no_resolved_patterns, and_resolved_pattern, resolved_pattern_list, ResolvedStrategy, id, fail, matches, builds, seq, guard, test, scope, param, call, congruence, tail_congruence, all, one, some, child, rec, prim, ResolvedStrategies, no_strategies, and_strategy, resolved_list}
use Rattle.strategy_syntax.specs.declared.resolved.Resolved.{Resolved}
use Rattle.strategy_check.specs.Tables.{DefinitionKey}
use Rattle.strategy_check.specs.Faults.{Primitives}
use Rattle.strategy_check.specs.Programs.{Program}

-- each variable is below the number of variables
abbrev mutual
  pub ResolvedPatternInRange : ℕ → ResolvedPattern → Type 0
  ResolvedPatternInRange n wildcard = ⊤
  ResolvedPatternInRange n (variable x) = x < n
  ResolvedPatternInRange n (at x p) = (x < n) × ResolvedPatternInRange n p
  ResolvedPatternInRange n (number z) = ⊤
  ResolvedPatternInRange n (compound h ps) = ResolvedPatternsInRange n ps
  ResolvedPatternInRange n (with_tail ps p) = ResolvedPatternsInRange n ps × ResolvedPatternInRange n p
  ResolvedPatternInRange n (annotated p ps) = ResolvedPatternInRange n p × ResolvedPatternsInRange n ps

  pub ResolvedPatternsInRange : ℕ → ResolvedPatterns → Type 0
  ResolvedPatternsInRange n no_resolved_patterns = ⊤
  ResolvedPatternsInRange n (and_resolved_pattern p ps) = ResolvedPatternInRange n p × ResolvedPatternsInRange n ps

-- Given the numbers of variables and strategy names in scope: the numbers of variables and names
-- are below them, a call is of a definition that takes as many strategies and terms, and a
-- primitive is one that takes as many terms.
abbrev mutual
  pub InRange : List DefinitionKey → Primitives → ℕ → ℕ → ResolvedStrategy → Type 0
  InRange D P n m id = ⊤
  InRange D P n m fail = ⊤
  InRange D P n m (matches p) = ResolvedPatternInRange n p
  InRange D P n m (builds p) = ResolvedPatternInRange n p
  InRange D P n m (seq r s) = InRange D P n m r × InRange D P n m s
  InRange D P n m (guard q r s) = InRange D P n m q × (InRange D P n m r × InRange D P n m s)
  InRange D P n m (test s) = InRange D P n m s
  InRange D P n m (scope k s) = InRange D P (n + k) m s
  InRange D P n m (param x) = x < m
  InRange D P n m (call f ss ps) =
      IsSomeAnd (slice_get D f)
      (λ k. (k.strategies ≡ length (resolved_list ss)) × (k.terms ≡ length (resolved_pattern_list ps)))
      × (AllInRange D P n m ss × ResolvedPatternsInRange n ps)
  InRange D P n m (congruence h ss) = AllInRange D P n m ss
  InRange D P n m (tail_congruence ss s) = AllInRange D P n m ss × InRange D P n m s
  InRange D P n m (all s) = InRange D P n m s
  InRange D P n m (one s) = InRange D P n m s
  InRange D P n m (some s) = InRange D P n m s
  InRange D P n m (child i s) = InRange D P n m s
  InRange D P n m (rec s) = InRange D P n (suc m) s
  InRange D P n m (prim f ps) =
      IsSomeAnd (slice_get P f) (λ p. length (resolved_pattern_list ps) ≡ p.arity) × ResolvedPatternsInRange n ps

  pub AllInRange : List DefinitionKey → Primitives → ℕ → ℕ → ResolvedStrategies → Type 0
  AllInRange D P n m no_strategies = ⊤
  AllInRange D P n m (and_strategy s ss) = InRange D P n m s × AllInRange D P n m ss

-- a whole strategy, where the first numbers belong to terms and strategy names
abbrev pub IsInRange : Program → Primitives → ℕ → ℕ → Resolved → Type 0
IsInRange p P terms strategies r =
    InRange p.table.definitions P (terms + r.variables) strategies r.strategy

-- each definition of the program has a body, which is in range with its parameters in scope
abbrev pub BodiesInRange : Program → Primitives → Type 0
BodiesInRange p P =
    (f : ℕ) (k : DefinitionKey) → slice_get p.table.definitions f ≡ Some k
    → IsSomeAnd (slice_get p.bodies f) (λ r. IsInRange p P k.terms k.strategies r)
