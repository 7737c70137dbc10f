-- Calls of the shape of `try(s)`.
use Rattle.std.specs.Prelude.{◌≡◌, ℕ, List, slice_get, Some}
use Rattle.strategy_syntax.specs.Resolved.{ResolvedPattern, ResolvedStrategy, id, guard, param, no_strategies, and_strategy, resolveds_of, no_resolved_patterns, resolved_patterns_of}
use Rattle.strategy_syntax.specs.declared.resolved.Resolved.{Resolved}
use Rattle.strategy_meaning.specs.Scopes.{Scope, argument}
use Rattle.strategy_machine.specs.declared.tries.Try.{Try}

-- As an argument the strategy stands for itself, in each scope.
pub record IsItself (s : ResolvedStrategy) : Type 0 where
  pub argument : (E : Scope) → argument E s ≡ record { strategy = s; written_in = E }

-- The definition f has no variables and its body is `s <+ id` with its first strategy name s; the
-- call has a single strategy, which is no name.
pub record IsTry (ds : List Resolved) (f : ℕ) (ss : List ResolvedStrategy) (ps : List ResolvedPattern)
    (t : Try) : Type 0 where
  pub body : Resolved
  pub defined : slice_get ds f ≡ Some body
  pub variables : body.variables ≡ 0
  pub is : body.strategy ≡ guard (param 0) id id
  pub strategies : resolveds_of ss ≡ and_strategy t.first.now no_strategies
  pub patterns : resolved_patterns_of ps ≡ no_resolved_patterns
  pub itself : IsItself t.first.now
  pub second : t.second.now ≡ id
  pub other : t.other.now ≡ id
