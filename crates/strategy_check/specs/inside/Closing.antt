-- Closing binders.
use Rattle.std.specs.Prelude.{ℕ, ◌-◌, drop}
use Rattle.strategy_check.specs.Resolving.{Scope}

-- the scope without the innermost variables
abbrev pub without_variables : Scope → ℕ → Scope
without_variables E n = record E { variables = drop n E.variables; count = E.count - n }

-- the scope without the innermost strategy name
abbrev pub without_name : Scope → Scope
without_name E = record E { names = drop 1 E.names }
