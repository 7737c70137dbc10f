-- What the numbers in a strategy stand for.
use Rattle.std.specs.Prelude.{ℕ, zero, suc, ◌+◌, List, [], ◌∷◌, ◌++◌, Some, None, unwrap_or}
use Rattle.std.specs.declared.option.Option.{Option}
use Rattle.strategy_syntax.specs.Resolved.{ResolvedStrategy, param, ResolvedStrategies, no_strategies, and_strategy}

-- A scope has, for each variable by its number, a cell among the bindings, and for each strategy
-- name the strategy that it stands for, with the scope that this belongs to.
mutual
  pub data Scope : Type 0 where
    inside : List ℕ → Closures → Scope

  -- a list of strategies with their scopes
  pub data Closures : Type 0 where
    no_closures : Closures
    and_closure : ResolvedStrategy → Scope → Closures → Closures

pub record Closure : Type 0 where
  pub strategy : ResolvedStrategy
  pub written_in : Scope

-- the cells of the variables
abbrev pub cells_in : Scope → List ℕ
cells_in (inside cells names) = cells

abbrev pub closure_at : Closures → ℕ → Option Closure
closure_at no_closures x = None
closure_at (and_closure s E more) zero = Some (record { strategy = s; written_in = E })
closure_at (and_closure s E more) (suc x) = closure_at more x

-- what a strategy name stands for
abbrev pub stands_for : Scope → ℕ → Option Closure
stands_for (inside cells names) x = closure_at names x

-- n numbers from first on
abbrev pub numbers_from : ℕ → ℕ → List ℕ
numbers_from first zero = []
numbers_from first (suc n) = first ∷ numbers_from (first + 1) n

-- the scope with n more variables, whose cells are those from first on
abbrev pub with_variables : Scope → ℕ → ℕ → Scope
with_variables (inside cells names) first n = inside (cells ++ numbers_from first n) names

-- one more, after the others
abbrev pub with_closure : Closures → ResolvedStrategy → Scope → Closures
with_closure no_closures s E = and_closure s E no_closures
with_closure (and_closure r F more) s E = and_closure r F (with_closure more s E)

-- the scope with one more strategy name
abbrev pub with_name : Scope → ResolvedStrategy → Scope → Scope
with_name (inside cells names) s E = inside cells (with_closure names s E)

-- What a strategy argument stands for: if it is just the name of a strategy parameter or of a
-- `rec`, what that name stands for.
abbrev pub argument : Scope → ResolvedStrategy → Closure
argument E (param x) = unwrap_or (stands_for E x) (record { strategy = param x; written_in = E })
argument E s = record { strategy = s; written_in = E }

abbrev pub arguments : Scope → ResolvedStrategies → Closures
arguments E no_strategies = no_closures
arguments E (and_strategy s ss) =
    let a = argument E s in and_closure a.strategy a.written_in (arguments E ss)
