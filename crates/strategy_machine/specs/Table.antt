-- Scopes by their numbers: each is an older one of the table, or the empty one, with an addition.
use Rattle.std.specs.Prelude.{◌≡◌, ◌<◌, ℕ, List, [], ◌∷◌, ◌++◌, get_or, length, take, Some, None, ⊤}
use Rattle.std.specs.declared.option.Option.{Option}
use Rattle.strategy_syntax.specs.Resolved.{ResolvedStrategy}
use Rattle.strategy_meaning.specs.Scopes.{Scope, Closure, inside, no_closures, stands_for, with_variables, with_name}
use Rattle.strategy_machine.specs.declared.scopes.Closure.{Closure as TableClosure}

pub data Addition : Type 0 where
  variables : ℕ → ℕ → Addition  -- the cell of the first one, and their number
  name : ResolvedStrategy → ℕ → Addition  -- what a strategy name stands for, and in which scope

pub record Widening : Type 0 where
  pub outer : Option ℕ
  pub adds : Addition

-- no variables and no names
abbrev pub nowhere : Scope
nowhere = inside [] no_closures

-- a number that belongs to no scope gives the empty one
abbrev pub scope_at : List Scope → ℕ → Scope
scope_at known n = get_or known n nowhere

abbrev pub scope_from : List Scope → Option ℕ → Scope
scope_from known None = nowhere
scope_from known (Some n) = scope_at known n

abbrev pub with_addition : List Scope → Addition → Scope → Scope
with_addition known (variables first n) E = with_variables E first n
with_addition known (name s k) E = with_name E s (scope_at known k)

abbrev pub widened : List Scope → Widening → Scope
widened known w = with_addition known w.adds (scope_from known w.outer)

-- the scopes of a table, given those of its older entries
abbrev pub scopes_after : List Scope → List Widening → List Scope
scopes_after known [] = []
scopes_after known (w ∷ ws) = widened known w ∷ scopes_after (known ++ widened known w ∷ []) ws

-- the scopes of a table, the oldest first
abbrev pub scopes : List Widening → List Scope
scopes ws = scopes_after [] ws

-- whether it is one of the first b scopes, or none
abbrev pub IsThere : ℕ → Option ℕ → Type 0
IsThere b None = ⊤
IsThere b (Some n) = n < b

-- what a name stands for, with the scope itself
abbrev pub closure_of : List Scope → TableClosure → Closure
closure_of known k = record { strategy = k.strategy.now; written_in = scope_at known k.written_in }

-- what name x stands for in scope n
abbrev pub NameStands : List Scope → ℕ → ℕ → TableClosure → Type 0
NameStands known n x k =
    (k.written_in < length known)
    × (stands_for (scope_at known n) x ≡ Some (closure_of known k))

-- the new list of scopes extends the old one
abbrev pub Starts : List Scope → List Scope → Type 0
Starts old new = take (length old) new ≡ old
