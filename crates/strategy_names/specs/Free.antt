-- The free variables of a strategy.
use Rattle.std.specs.Prelude.{List, [], ◌++◌}
use Rattle.term_core.specs.Tree.{Symbol, same_name}
use Rattle.strategy_syntax.specs.Syntax.{Strategy, id, fail, matches, builds, seq, guard, test, scope, uses, congruence, tail_congruence, all, one, some, child, rec, prim, Strategies, no_strategies, and_strategy}
use Rattle.strategy_syntax.specs.Variables.{variables, variables_of_all}
use Rattle.strategy_syntax.specs.Lists.{first_ones, without}

-- Each occurrence of a variable in a pattern that no enclosing scope binds, from left to right in
-- the core form: that of `<?x> y` is `!y; ?x`, in which y comes first. Strategy arguments count as
-- part of the strategy that contains them.
abbrev mutual
  pub free : Strategy → List Symbol
  free id = []
  free fail = []
  free (matches p) = variables p
  free (builds p) = variables p
  free (seq r s) = free r ++ free s
  free (guard q r s) = free q ++ (free r ++ free s)
  free (test s) = free s
  free (scope xs s) = without same_name xs (free s)
  free (uses f ss ps) = free_in_all ss ++ variables_of_all ps
  free (congruence h ss) = free_in_all ss
  free (tail_congruence ss s) = free_in_all ss ++ free s
  free (all s) = free s
  free (one s) = free s
  free (some s) = free s
  free (child i s) = free s
  free (rec f s) = free s
  free (prim n ps) = variables_of_all ps

  pub free_in_all : Strategies → List Symbol
  free_in_all no_strategies = []
  free_in_all (and_strategy s ss) = free s ++ free_in_all ss

-- the free variables, each once, in the order of their first occurrence, without the parameters
abbrev pub free_variables : List Symbol → Strategy → List Symbol
free_variables parameters s = first_ones same_name parameters (free s)
