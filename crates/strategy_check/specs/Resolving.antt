-- Resolving names in strategies to numbers.
use Rattle.std.specs.Prelude.{ℕ, ◌+◌, List, ◌∷◌, length, Some, None, unwrap_or}
use Rattle.std.specs.declared.option.Option.{Option}
use Rattle.term_core.specs.Tree.{Symbol, application}
use Rattle.prim_core.specs.Signature as primitive
use Rattle.strategy_syntax.specs.Syntax as syntax
use Rattle.strategy_syntax.specs.Syntax.{Pattern, Patterns, no_patterns, and_pattern, pattern_list, Strategy, Strategies, no_strategies, and_strategy, strategy_list}
use Rattle.strategy_syntax.specs.Resolved.{ResolvedPattern, wildcard, variable, at, number, compound, with_tail, annotated, ResolvedPatterns, no_resolved_patterns, and_resolved_pattern, ResolvedStrategy, id, fail, matches, builds, seq, guard, test, scope, param, call, congruence, tail_congruence, all, one, some, child, rec, prim, ResolvedStrategies}
use Rattle.strategy_syntax.specs.Resolved as resolved
use Rattle.strategy_names.specs.Binders.{Binder, binder_number, bound_from}
use Rattle.strategy_check.specs.Tables.{Table, definition_number}
use Rattle.strategy_check.specs.Faults.{Primitives}

-- The scope of a part of a strategy: the binders of variables, the number of variables so far
-- (which exceeds the named ones if a definition has several bodies), and the binders of strategy
-- names.
pub record Scope : Type 0 where
  pub variables : List Binder
  pub count : ℕ
  pub names : List Binder

-- the scope with new variables inside
abbrev pub with_variables : Scope → List Symbol → Scope
with_variables E xs = record E {
  variables = bound_from E.count xs E.variables;
  count = E.count + length xs;
}

-- the scope with a new strategy name inside
abbrev pub with_name : Scope → Symbol → Scope
with_name E f = record E {
  names = record { name = f; number = length E.names } ∷ E.names;
}

-- the number of a variable; each has a binder once the free ones are bound
abbrev pub variable_number : List Binder → Symbol → ℕ
variable_number bs x = unwrap_or (binder_number x bs) 0

abbrev mutual
  pub resolved_pattern : List Binder → Pattern → ResolvedPattern
  resolved_pattern bs syntax.wildcard = wildcard
  resolved_pattern bs (syntax.variable x) = variable (variable_number bs x)
  resolved_pattern bs (syntax.at x p) = at (variable_number bs x) (resolved_pattern bs p)
  resolved_pattern bs (syntax.number z) = number z
  resolved_pattern bs (syntax.compound h ps) = compound h (resolved_patterns bs ps)
  resolved_pattern bs (syntax.with_tail ps p) = with_tail (resolved_patterns bs ps) (resolved_pattern bs p)
  resolved_pattern bs (syntax.annotated p ps) = annotated (resolved_pattern bs p) (resolved_patterns bs ps)

  pub resolved_patterns : List Binder → Patterns → ResolvedPatterns
  resolved_patterns bs no_patterns = no_resolved_patterns
  resolved_patterns bs (and_pattern p ps) = and_resolved_pattern (resolved_pattern bs p) (resolved_patterns bs ps)

-- a name that is no strategy name in scope: a definition, else a constructor
abbrev pub definition_or_constructor : Symbol → Option ℕ → ResolvedStrategies → ResolvedPatterns → ResolvedStrategy
definition_or_constructor f (Some k) ss ps = call k ss ps
definition_or_constructor f None ss ps = congruence (application f) ss

-- a name: a strategy name in scope, else a definition, else a constructor
abbrev pub name_or_other : Option ℕ → ResolvedStrategy → ResolvedStrategy
name_or_other (Some x) r = param x
name_or_other None r = r

abbrev mutual
  pub resolved_strategy : Table → Primitives → Scope → Strategy → ResolvedStrategy
  resolved_strategy T P E syntax.id = id
  resolved_strategy T P E syntax.fail = fail
  resolved_strategy T P E (syntax.matches p) = matches (resolved_pattern E.variables p)
  resolved_strategy T P E (syntax.builds p) = builds (resolved_pattern E.variables p)
  resolved_strategy T P E (syntax.seq r s) =
      seq (resolved_strategy T P E r) (resolved_strategy T P E s)
  resolved_strategy T P E (syntax.guard q r s) =
      guard (resolved_strategy T P E q) (resolved_strategy T P E r) (resolved_strategy T P E s)
  resolved_strategy T P E (syntax.test s) = test (resolved_strategy T P E s)
  resolved_strategy T P E (syntax.scope xs s) =
      scope (length xs) (resolved_strategy T P (with_variables E xs) s)
  resolved_strategy T P E (syntax.uses f ss ps) =
      name_or_other (binder_number f E.names)
      (definition_or_constructor f
      (definition_number T f (length (strategy_list ss)) (length (pattern_list ps)))
      (resolved_strategies T P E ss) (resolved_patterns E.variables ps))
  resolved_strategy T P E (syntax.congruence h ss) = congruence h (resolved_strategies T P E ss)
  resolved_strategy T P E (syntax.tail_congruence ss s) =
      tail_congruence (resolved_strategies T P E ss) (resolved_strategy T P E s)
  resolved_strategy T P E (syntax.all s) = all (resolved_strategy T P E s)
  resolved_strategy T P E (syntax.one s) = one (resolved_strategy T P E s)
  resolved_strategy T P E (syntax.some s) = some (resolved_strategy T P E s)
  resolved_strategy T P E (syntax.child i s) = child i (resolved_strategy T P E s)
  resolved_strategy T P E (syntax.rec f s) = rec (resolved_strategy T P (with_name E f) s)
  resolved_strategy T P E (syntax.prim n ps) =
      prim (unwrap_or (primitive.index_of n.text (length (pattern_list ps)) P) 0)
      (resolved_patterns E.variables ps)

  pub resolved_strategies : Table → Primitives → Scope → Strategies → ResolvedStrategies
  resolved_strategies T P E no_strategies = resolved.no_strategies
  resolved_strategies T P E (and_strategy s ss) =
      resolved.and_strategy (resolved_strategy T P E s) (resolved_strategies T P E ss)
