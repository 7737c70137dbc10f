-- How the logic stores resolved patterns and strategies: as those with names, where each number is
-- the text of a name.
use Rattle.std.specs.Prelude.{◌≡◌, ℕ, Bool, true, false, cond, List, [], ◌∷◌, refl}
use Rattle.std.proofs.Common.{ap}
use Rattle.std.specs.Coded.{Coded, code_by}
use Rattle.term_core.specs.Tree.{Symbol}
use Rattle.strategy_syntax.specs.Syntax as named
use Rattle.strategy_syntax.specs.inside.Codes.{pattern_code, strategy_code}
use Rattle.strategy_syntax.specs.Resolved.{ResolvedPattern, wildcard, variable, at, number, compound, with_tail, annotated, ResolvedPatterns, no_resolved_patterns, and_resolved_pattern, ResolvedStrategy, id, fail, matches, builds, seq, guard, test, scope, param, call, congruence, tail_congruence, all, one, some, child, rec, prim, ResolvedStrategies, no_strategies, and_strategy}

abbrev name_of : Bool → ℕ → Symbol
name_of quoted n = record { text = n ∷ []; is_quoted = quoted }

abbrev first_or_zero : List ℕ → ℕ
first_or_zero [] = 0
first_or_zero (n ∷ ns) = n

abbrev symbol_number : Symbol → ℕ
symbol_number f = first_or_zero f.text

abbrev number_of_first : List Symbol → ℕ
number_of_first [] = 0
number_of_first (f ∷ fs) = symbol_number f

-- ---- patterns

abbrev mutual
  pub to_pattern : ResolvedPattern → named.Pattern
  to_pattern wildcard = named.wildcard
  to_pattern (variable x) = named.variable (name_of false x)
  to_pattern (at x p) = named.at (name_of false x) (to_pattern p)
  to_pattern (number z) = named.number z
  to_pattern (compound h ps) = named.compound h (to_patterns ps)
  to_pattern (with_tail ps p) = named.with_tail (to_patterns ps) (to_pattern p)
  to_pattern (annotated p ps) = named.annotated (to_pattern p) (to_patterns ps)

  pub to_patterns : ResolvedPatterns → named.Patterns
  to_patterns no_resolved_patterns = named.no_patterns
  to_patterns (and_resolved_pattern p ps) = named.and_pattern (to_pattern p) (to_patterns ps)

abbrev mutual
  pub of_pattern : named.Pattern → ResolvedPattern
  of_pattern named.wildcard = wildcard
  of_pattern (named.variable x) = variable (symbol_number x)
  of_pattern (named.at x p) = at (symbol_number x) (of_pattern p)
  of_pattern (named.number z) = number z
  of_pattern (named.compound h ps) = compound h (of_patterns ps)
  of_pattern (named.with_tail ps p) = with_tail (of_patterns ps) (of_pattern p)
  of_pattern (named.annotated p ps) = annotated (of_pattern p) (of_patterns ps)

  pub of_patterns : named.Patterns → ResolvedPatterns
  of_patterns named.no_patterns = no_resolved_patterns
  of_patterns (named.and_pattern p ps) = and_resolved_pattern (of_pattern p) (of_patterns ps)

mutual
  pub resolved_pattern_again : (p : ResolvedPattern) → of_pattern (to_pattern p) ≡ p
  resolved_pattern_again wildcard = refl
  resolved_pattern_again (variable x) = refl
  resolved_pattern_again (at x p) = ap (at x) (resolved_pattern_again p)
  resolved_pattern_again (number z) = refl
  resolved_pattern_again (compound h ps) = ap (compound h) (resolved_patterns_again ps)
  resolved_pattern_again (with_tail ps p) = λ i. with_tail (resolved_patterns_again ps i) (resolved_pattern_again p i)
  resolved_pattern_again (annotated p ps) = λ i. annotated (resolved_pattern_again p i) (resolved_patterns_again ps i)

  pub resolved_patterns_again : (ps : ResolvedPatterns) → of_patterns (to_patterns ps) ≡ ps
  resolved_patterns_again no_resolved_patterns = refl
  resolved_patterns_again (and_resolved_pattern p ps) =
      λ i. and_resolved_pattern (resolved_pattern_again p i) (resolved_patterns_again ps i)

abbrev pub resolved_pattern_code : Coded ResolvedPattern
resolved_pattern_code = code_by named.Pattern pattern_code to_pattern of_pattern resolved_pattern_again

-- ---- strategies

-- a parameter is a use of a quoted name, a call of a word
abbrev mutual
  pub to_strategy : ResolvedStrategy → named.Strategy
  to_strategy id = named.id
  to_strategy fail = named.fail
  to_strategy (matches p) = named.matches (to_pattern p)
  to_strategy (builds p) = named.builds (to_pattern p)
  to_strategy (seq a b) = named.seq (to_strategy a) (to_strategy b)
  to_strategy (guard a b c) = named.guard (to_strategy a) (to_strategy b) (to_strategy c)
  to_strategy (test a) = named.test (to_strategy a)
  to_strategy (scope n a) = named.scope (name_of false n ∷ []) (to_strategy a)
  to_strategy (param x) = named.uses (name_of true x) named.no_strategies named.no_patterns
  to_strategy (call f ss ps) = named.uses (name_of false f) (to_strategies ss) (to_patterns ps)
  to_strategy (congruence h ss) = named.congruence h (to_strategies ss)
  to_strategy (tail_congruence ss a) = named.tail_congruence (to_strategies ss) (to_strategy a)
  to_strategy (all a) = named.all (to_strategy a)
  to_strategy (one a) = named.one (to_strategy a)
  to_strategy (some a) = named.some (to_strategy a)
  to_strategy (child i a) = named.child i (to_strategy a)
  to_strategy (rec a) = named.rec (name_of false 0) (to_strategy a)
  to_strategy (prim n ps) = named.prim (name_of false n) (to_patterns ps)

  pub to_strategies : ResolvedStrategies → named.Strategies
  to_strategies no_strategies = named.no_strategies
  to_strategies (and_strategy s ss) = named.and_strategy (to_strategy s) (to_strategies ss)

abbrev mutual
  pub of_strategy : named.Strategy → ResolvedStrategy
  of_strategy named.id = id
  of_strategy named.fail = fail
  of_strategy (named.matches p) = matches (of_pattern p)
  of_strategy (named.builds p) = builds (of_pattern p)
  of_strategy (named.seq a b) = seq (of_strategy a) (of_strategy b)
  of_strategy (named.guard a b c) = guard (of_strategy a) (of_strategy b) (of_strategy c)
  of_strategy (named.test a) = test (of_strategy a)
  of_strategy (named.scope xs a) = scope (number_of_first xs) (of_strategy a)
  of_strategy (named.uses f ss ps) =
      cond f.is_quoted (param (symbol_number f)) (call (symbol_number f) (of_strategies ss) (of_patterns ps))
  of_strategy (named.congruence h ss) = congruence h (of_strategies ss)
  of_strategy (named.tail_congruence ss a) = tail_congruence (of_strategies ss) (of_strategy a)
  of_strategy (named.all a) = all (of_strategy a)
  of_strategy (named.one a) = one (of_strategy a)
  of_strategy (named.some a) = some (of_strategy a)
  of_strategy (named.child i a) = child i (of_strategy a)
  of_strategy (named.rec x a) = rec (of_strategy a)
  of_strategy (named.prim n ps) = prim (symbol_number n) (of_patterns ps)

  pub of_strategies : named.Strategies → ResolvedStrategies
  of_strategies named.no_strategies = no_strategies
  of_strategies (named.and_strategy s ss) = and_strategy (of_strategy s) (of_strategies ss)

mutual
  pub strategy_again : (s : ResolvedStrategy) → of_strategy (to_strategy s) ≡ s
  strategy_again id = refl
  strategy_again fail = refl
  strategy_again (matches p) = ap matches (resolved_pattern_again p)
  strategy_again (builds p) = ap builds (resolved_pattern_again p)
  strategy_again (seq a b) = λ i. seq (strategy_again a i) (strategy_again b i)
  strategy_again (guard a b c) =
      λ i. guard (strategy_again a i) (strategy_again b i) (strategy_again c i)
  strategy_again (test a) = ap test (strategy_again a)
  strategy_again (scope n a) = ap (scope n) (strategy_again a)
  strategy_again (param x) = refl
  strategy_again (call f ss ps) = λ i. call f (strategies_again ss i) (resolved_patterns_again ps i)
  strategy_again (congruence h ss) = ap (congruence h) (strategies_again ss)
  strategy_again (tail_congruence ss a) =
      λ i. tail_congruence (strategies_again ss i) (strategy_again a i)
  strategy_again (all a) = ap all (strategy_again a)
  strategy_again (one a) = ap one (strategy_again a)
  strategy_again (some a) = ap some (strategy_again a)
  strategy_again (child n a) = ap (child n) (strategy_again a)
  strategy_again (rec a) = ap rec (strategy_again a)
  strategy_again (prim n ps) = ap (prim n) (resolved_patterns_again ps)

  pub strategies_again : (ss : ResolvedStrategies) → of_strategies (to_strategies ss) ≡ ss
  strategies_again no_strategies = refl
  strategies_again (and_strategy s ss) =
      λ i. and_strategy (strategy_again s i) (strategies_again ss i)

abbrev pub resolved_code : Coded ResolvedStrategy
resolved_code = code_by named.Strategy strategy_code to_strategy of_strategy strategy_again
