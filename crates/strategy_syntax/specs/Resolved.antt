-- Strategies in which each name that has a binder is a number, as plain data. A variable, a
-- strategy parameter and a `rec` name are the numbers of their binders among the enclosing ones,
-- counted from the outermost of the definition or strategy; variables and strategy names are
-- counted separately. A definition and a primitive are their numbers in the program and among the
-- primitives. A whole strategy, with the number of its free variables, is the struct `Resolved`.
use Rattle.std.specs.Prelude.{ℕ, ℤ, List, [], ◌∷◌}
use Rattle.term_core.specs.Tree.{Head}

-- A pattern, whose variables are numbers.
mutual
  pub data ResolvedPattern : Type 0 where
    wildcard : ResolvedPattern
    variable : ℕ → ResolvedPattern
    at : ℕ → ResolvedPattern → ResolvedPattern
    number : ℤ → ResolvedPattern
    compound : Head → ResolvedPatterns → ResolvedPattern
    with_tail : ResolvedPatterns → ResolvedPattern → ResolvedPattern
    annotated : ResolvedPattern → ResolvedPatterns → ResolvedPattern

  pub data ResolvedPatterns : Type 0 where
    no_resolved_patterns : ResolvedPatterns
    and_resolved_pattern : ResolvedPattern → ResolvedPatterns → ResolvedPatterns

abbrev pub resolved_pattern_list : ResolvedPatterns → List ResolvedPattern
resolved_pattern_list no_resolved_patterns = []
resolved_pattern_list (and_resolved_pattern p ps) = p ∷ resolved_pattern_list ps

abbrev pub resolved_patterns_of : List ResolvedPattern → ResolvedPatterns
resolved_patterns_of [] = no_resolved_patterns
resolved_patterns_of (p ∷ ps) = and_resolved_pattern p (resolved_patterns_of ps)

mutual
  pub data ResolvedStrategy : Type 0 where
    id : ResolvedStrategy
    fail : ResolvedStrategy
    matches : ResolvedPattern → ResolvedStrategy
    builds : ResolvedPattern → ResolvedStrategy
    seq : ResolvedStrategy → ResolvedStrategy → ResolvedStrategy
    guard : ResolvedStrategy → ResolvedStrategy → ResolvedStrategy → ResolvedStrategy
    test : ResolvedStrategy → ResolvedStrategy
    scope : ℕ → ResolvedStrategy → ResolvedStrategy  -- new variables, this many
    param : ℕ → ResolvedStrategy  -- a strategy parameter or a `rec` name
    -- a definition, with strategies and patterns for its parameters
    call : ℕ → ResolvedStrategies → ResolvedPatterns → ResolvedStrategy
    congruence : Head → ResolvedStrategies → ResolvedStrategy
    tail_congruence : ResolvedStrategies → ResolvedStrategy → ResolvedStrategy
    all : ResolvedStrategy → ResolvedStrategy
    one : ResolvedStrategy → ResolvedStrategy
    some : ResolvedStrategy → ResolvedStrategy
    child : ℕ → ResolvedStrategy → ResolvedStrategy  -- child i, counted from 1
    rec : ResolvedStrategy → ResolvedStrategy
    prim : ℕ → ResolvedPatterns → ResolvedStrategy

  pub data ResolvedStrategies : Type 0 where
    no_strategies : ResolvedStrategies
    and_strategy : ResolvedStrategy → ResolvedStrategies → ResolvedStrategies

abbrev pub resolved_list : ResolvedStrategies → List ResolvedStrategy
resolved_list no_strategies = []
resolved_list (and_strategy s ss) = s ∷ resolved_list ss

abbrev pub resolveds_of : List ResolvedStrategy → ResolvedStrategies
resolveds_of [] = no_strategies
resolveds_of (s ∷ ss) = and_strategy s (resolveds_of ss)
