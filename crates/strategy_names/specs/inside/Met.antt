-- The variables found so far, extended by those met next: each is added once, unless it is hidden.
-- The first of them has the number n.
use Rattle.std.specs.Prelude.{ℕ, ◌+◌, ◌||◌, List, ◌∷◌, length, if◌then◌else◌, is_some}
use Rattle.term_core.specs.Tree.{Symbol}
use Rattle.strategy_syntax.specs.Syntax.{Pattern, wildcard, variable, at, number, compound, with_tail, annotated, Patterns, no_patterns, and_pattern, Strategy, id, fail, matches, builds, seq, guard, test, scope, uses, congruence, tail_congruence, all, one, some, child, rec, prim, Strategies, no_strategies, and_strategy}
use Rattle.strategy_names.specs.Binders.{Binder, binder_number, bound_from}

abbrev pub met : List Binder → ℕ → List Binder → Symbol → List Binder
met hidden n found x =
    if is_some (binder_number x hidden) || is_some (binder_number x found) then found
    else record { name = x; number = n + length found } ∷ found

abbrev mutual
  pub met_in_pattern : List Binder → ℕ → List Binder → Pattern → List Binder
  met_in_pattern hidden n found wildcard = found
  met_in_pattern hidden n found (variable x) = met hidden n found x
  met_in_pattern hidden n found (at x p) = met_in_pattern hidden n (met hidden n found x) p
  met_in_pattern hidden n found (number z) = found
  met_in_pattern hidden n found (compound h ps) = met_in_patterns hidden n found ps
  met_in_pattern hidden n found (with_tail ps p) =
      met_in_pattern hidden n (met_in_patterns hidden n found ps) p
  met_in_pattern hidden n found (annotated p ps) =
      met_in_patterns hidden n (met_in_pattern hidden n found p) ps

  pub met_in_patterns : List Binder → ℕ → List Binder → Patterns → List Binder
  met_in_patterns hidden n found no_patterns = found
  met_in_patterns hidden n found (and_pattern p ps) =
      met_in_patterns hidden n (met_in_pattern hidden n found p) ps

abbrev mutual
  pub met_in_strategy : List Binder → ℕ → List Binder → Strategy → List Binder
  met_in_strategy hidden n found id = found
  met_in_strategy hidden n found fail = found
  met_in_strategy hidden n found (matches p) = met_in_pattern hidden n found p
  met_in_strategy hidden n found (builds p) = met_in_pattern hidden n found p
  met_in_strategy hidden n found (seq r s) =
      met_in_strategy hidden n (met_in_strategy hidden n found r) s
  met_in_strategy hidden n found (guard q r s) =
      met_in_strategy hidden n (met_in_strategy hidden n (met_in_strategy hidden n found q) r) s
  met_in_strategy hidden n found (test s) = met_in_strategy hidden n found s
  met_in_strategy hidden n found (scope xs s) = met_in_strategy (bound_from 0 xs hidden) n found s
  met_in_strategy hidden n found (uses f ss ps) =
      met_in_patterns hidden n (met_in_strategies hidden n found ss) ps
  met_in_strategy hidden n found (congruence h ss) = met_in_strategies hidden n found ss
  met_in_strategy hidden n found (tail_congruence ss s) =
      met_in_strategy hidden n (met_in_strategies hidden n found ss) s
  met_in_strategy hidden n found (all s) = met_in_strategy hidden n found s
  met_in_strategy hidden n found (one s) = met_in_strategy hidden n found s
  met_in_strategy hidden n found (some s) = met_in_strategy hidden n found s
  met_in_strategy hidden n found (child i s) = met_in_strategy hidden n found s
  met_in_strategy hidden n found (rec f s) = met_in_strategy hidden n found s
  met_in_strategy hidden n found (prim m ps) = met_in_patterns hidden n found ps

  pub met_in_strategies : List Binder → ℕ → List Binder → Strategies → List Binder
  met_in_strategies hidden n found no_strategies = found
  met_in_strategies hidden n found (and_strategy s ss) =
      met_in_strategies hidden n (met_in_strategy hidden n found s) ss
