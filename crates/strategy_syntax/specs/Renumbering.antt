-- New numbers for the definitions that a resolved strategy calls.
use Rattle.std.specs.Prelude.{ℕ, List, slice_get, unwrap_or}
use Rattle.strategy_syntax.specs.Resolved.{ResolvedStrategy, id, fail, matches, builds, seq, guard, test, scope, param, call, congruence, tail_congruence, all, one, some, child, rec, prim, ResolvedStrategies, no_strategies, and_strategy}

-- the new number of definition k: the one at its index, else its own
abbrev pub new_number : List ℕ → ℕ → ℕ
new_number numbers k = unwrap_or (slice_get numbers k) k

abbrev mutual
  pub renumbered : List ℕ → ResolvedStrategy → ResolvedStrategy
  renumbered numbers id = id
  renumbered numbers fail = fail
  renumbered numbers (matches p) = matches p
  renumbered numbers (builds p) = builds p
  renumbered numbers (seq r s) = seq (renumbered numbers r) (renumbered numbers s)
  renumbered numbers (guard q r s) =
      guard (renumbered numbers q) (renumbered numbers r) (renumbered numbers s)
  renumbered numbers (test s) = test (renumbered numbers s)
  renumbered numbers (scope n s) = scope n (renumbered numbers s)
  renumbered numbers (param x) = param x
  renumbered numbers (call k ss ps) = call (new_number numbers k) (all_renumbered numbers ss) ps
  renumbered numbers (congruence h ss) = congruence h (all_renumbered numbers ss)
  renumbered numbers (tail_congruence ss s) =
      tail_congruence (all_renumbered numbers ss) (renumbered numbers s)
  renumbered numbers (all s) = all (renumbered numbers s)
  renumbered numbers (one s) = one (renumbered numbers s)
  renumbered numbers (some s) = some (renumbered numbers s)
  renumbered numbers (child i s) = child i (renumbered numbers s)
  renumbered numbers (rec s) = rec (renumbered numbers s)
  renumbered numbers (prim f ps) = prim f ps

  pub all_renumbered : List ℕ → ResolvedStrategies → ResolvedStrategies
  all_renumbered numbers no_strategies = no_strategies
  all_renumbered numbers (and_strategy s ss) =
      and_strategy (renumbered numbers s) (all_renumbered numbers ss)
