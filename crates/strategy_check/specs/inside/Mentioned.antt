-- A table, extended by what is mentioned next: keys of definitions, and constructors.
use Rattle.std.specs.Prelude.{ℕ, Bool, true, false, List, [], ◌∷◌, length, is_some}
use Rattle.indexmap.specs.IndexSet.{insert_key}
use Rattle.term_core.specs.Tree.{Symbol, Head, application, list, tuple}
use Rattle.strategy_syntax.specs.Syntax.{Pattern, wildcard, variable, at, number, compound, with_tail, annotated, Patterns, no_patterns, and_pattern, pattern_list, Strategy, id, fail, matches, builds, seq, guard, test, scope, uses, congruence, tail_congruence, all, one, some, child, rec, prim, Strategies, no_strategies, and_strategy, strategy_list}
use Rattle.strategy_syntax.specs.Modules.{Definition}
use Rattle.strategy_names.specs.Binders.{Binder, binder_number}
use Rattle.strategy_check.specs.Faults.{parameter_names}
use Rattle.strategy_check.specs.Tables.{Table, same_key, same_constructor}

abbrev pub with_key : Table → Symbol → ℕ → ℕ → Table
with_key M f n m = record {
  definitions = insert_key same_key M.definitions (record { name = f; strategies = n; terms = m });
  constructors = M.constructors;
}

abbrev pub with_constructor : Table → Symbol → ℕ → Table
with_constructor M f n = record {
  definitions = M.definitions;
  constructors = insert_key same_constructor M.constructors (record { name = f; arity = n });
}

-- ---- patterns

abbrev pub mentioned_by_head : Table → Head → ℕ → Table
mentioned_by_head M (application f) n = with_constructor M f n
mentioned_by_head M list n = M
mentioned_by_head M tuple n = M

abbrev mutual
  pub mentioned_in_pattern : Table → Pattern → Table
  mentioned_in_pattern M wildcard = M
  mentioned_in_pattern M (variable x) = M
  mentioned_in_pattern M (at x p) = mentioned_in_pattern M p
  mentioned_in_pattern M (number z) = M
  mentioned_in_pattern M (compound h ps) =
      mentioned_in_patterns (mentioned_by_head M h (length (pattern_list ps))) ps
  mentioned_in_pattern M (with_tail ps p) = mentioned_in_pattern (mentioned_in_patterns M ps) p
  mentioned_in_pattern M (annotated p ps) = mentioned_in_patterns (mentioned_in_pattern M p) ps

  pub mentioned_in_patterns : Table → Patterns → Table
  mentioned_in_patterns M no_patterns = M
  mentioned_in_patterns M (and_pattern p ps) = mentioned_in_patterns (mentioned_in_pattern M p) ps

-- ---- strategies, where these strategy names are in scope

-- a name with n strategies and m terms, which may be in scope
abbrev pub mentioned_by_name : Table → Bool → Symbol → ℕ → ℕ → Table
mentioned_by_name M true f n m = M
mentioned_by_name M false f n m = with_constructor (with_key M f n m) f n

abbrev mutual
  pub mentioned_in_strategy : List Binder → Table → Strategy → Table
  mentioned_in_strategy names M id = M
  mentioned_in_strategy names M fail = M
  mentioned_in_strategy names M (matches p) = mentioned_in_pattern M p
  mentioned_in_strategy names M (builds p) = mentioned_in_pattern M p
  mentioned_in_strategy names M (seq r s) =
      mentioned_in_strategy names (mentioned_in_strategy names M r) s
  mentioned_in_strategy names M (guard q r s) =
      mentioned_in_strategy names (mentioned_in_strategy names (mentioned_in_strategy names M q) r) s
  mentioned_in_strategy names M (test s) = mentioned_in_strategy names M s
  mentioned_in_strategy names M (scope xs s) = mentioned_in_strategy names M s
  mentioned_in_strategy names M (uses f ss ps) =
      mentioned_in_patterns (mentioned_in_strategies names
      (mentioned_by_name M (is_some (binder_number f names)) f (length (strategy_list ss)) (length (pattern_list ps)))
      ss) ps
  mentioned_in_strategy names M (congruence h ss) = mentioned_in_strategies names M ss
  mentioned_in_strategy names M (tail_congruence ss s) =
      mentioned_in_strategy names (mentioned_in_strategies names M ss) s
  mentioned_in_strategy names M (all s) = mentioned_in_strategy names M s
  mentioned_in_strategy names M (one s) = mentioned_in_strategy names M s
  mentioned_in_strategy names M (some s) = mentioned_in_strategy names M s
  mentioned_in_strategy names M (child i s) = mentioned_in_strategy names M s
  mentioned_in_strategy names M (rec f s) =
      mentioned_in_strategy (record { name = f; number = length names } ∷ names) M s
  mentioned_in_strategy names M (prim n ps) = mentioned_in_patterns M ps

  pub mentioned_in_strategies : List Binder → Table → Strategies → Table
  mentioned_in_strategies names M no_strategies = M
  mentioned_in_strategies names M (and_strategy s ss) =
      mentioned_in_strategies names (mentioned_in_strategy names M s) ss

-- ---- bodies of definitions

abbrev pub mentioned_in_body : Table → Definition → Table
mentioned_in_body M d = mentioned_in_strategy (parameter_names d) M d.body

abbrev pub mentioned_in_bodies : Table → List Definition → Table
mentioned_in_bodies M [] = M
mentioned_in_bodies M (d ∷ ds) = mentioned_in_bodies (mentioned_in_body M d) ds
