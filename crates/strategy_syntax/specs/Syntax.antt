-- Patterns, and strategies in their core forms, with names, as plain data.
use Rattle.std.specs.Prelude.{ℕ, ℤ, List, [], ◌∷◌}
use Rattle.term_core.specs.Tree.{Symbol, Head}

-- A pattern. A string is its quoted name over no patterns.
mutual
  pub data Pattern : Type 0 where
    wildcard : Pattern  -- `_`
    variable : Symbol → Pattern  -- `x`
    at : Symbol → Pattern → Pattern  -- `x@p`
    number : ℤ → Pattern  -- an integer
    compound : Head → Patterns → Pattern  -- `c(p1,..,pn)`, a string, a list or a tuple
    with_tail : Patterns → Pattern → Pattern  -- `[p1,..,pn|p]`: p is for the list of the rest
    annotated : Pattern → Patterns → Pattern  -- `p{q1,..,qm}`

  pub data Patterns : Type 0 where
    no_patterns : Patterns
    and_pattern : Pattern → Patterns → Patterns

abbrev pub pattern_list : Patterns → List Pattern
pattern_list no_patterns = []
pattern_list (and_pattern p ps) = p ∷ pattern_list ps

abbrev pub patterns_of : List Pattern → Patterns
patterns_of [] = no_patterns
patterns_of (p ∷ ps) = and_pattern p (patterns_of ps)

mutual
  pub data Strategy : Type 0 where
    id : Strategy
    fail : Strategy
    matches : Pattern → Strategy  -- `?p`
    builds : Pattern → Strategy  -- `!p`
    seq : Strategy → Strategy → Strategy  -- `s1; s2`
    guard : Strategy → Strategy → Strategy → Strategy  -- `s1 < s2 + s3`
    test : Strategy → Strategy  -- `where(s)`
    scope : List Symbol → Strategy → Strategy  -- `{x1,..,xn: s}`
    -- `f(s1,..,sn|p1,..,pm)`: a parameter, a definition or a constructor, by its name
    uses : Symbol → Strategies → Patterns → Strategy
    -- a congruence: a strategy for each child of an application, a list or a tuple
    congruence : Head → Strategies → Strategy
    -- `[s1,..,sn|s]`: a strategy for each of the first elements, and one for the list of the rest
    tail_congruence : Strategies → Strategy → Strategy
    all : Strategy → Strategy
    one : Strategy → Strategy
    some : Strategy → Strategy
    child : ℕ → Strategy → Strategy  -- `i(s)`: child i, counted from 1
    rec : Symbol → Strategy → Strategy  -- `rec x(s)`
    prim : Symbol → Patterns → Strategy  -- `prim("n",p1,..,pk)`, by its quoted name

  pub data Strategies : Type 0 where
    no_strategies : Strategies
    and_strategy : Strategy → Strategies → Strategies

abbrev pub strategy_list : Strategies → List Strategy
strategy_list no_strategies = []
strategy_list (and_strategy s ss) = s ∷ strategy_list ss

abbrev pub strategies_of : List Strategy → Strategies
strategies_of [] = no_strategies
strategies_of (s ∷ ss) = and_strategy s (strategies_of ss)
