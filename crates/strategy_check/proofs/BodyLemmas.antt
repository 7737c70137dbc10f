-- Lists of resolved strategies under construction, and scopes that are closed again.
use Rattle.std.proofs.Common.{◌≡◌, ℕ, suc, ◌+◌, ◌-◌, ◌<◌, List, [], ◌∷◌, ◌++◌, length, get_or, take, add-one, refl, sym, ap, ◌∙◌, subst, arith, Result, IfOk}
use Rattle.std.proofs.Math.Seq.{take-suc}
use Rattle.term_core.specs.Tree.{Symbol}
use Rattle.strategy_syntax.specs.Syntax as syntax
use Rattle.strategy_syntax.specs.Syntax.{Pattern, Patterns, no_patterns, and_pattern, pattern_list, patterns_of, Strategy, Strategies, uses, strategy_list, strategies_of}
use Rattle.strategy_syntax.specs.Resolved.{ResolvedStrategy, ResolvedStrategies, no_strategies, and_strategy, resolveds_of, resolved_list, ResolvedPattern, resolved_pattern_list, resolved_patterns_of}
use Rattle.strategy_syntax.specs.ResolvedView.{resolved_of}
use Rattle.strategy_syntax.specs.declared.resolved.ResolvedForm.{ResolvedForm}
use Rattle.strategy_syntax.proofs.ResolvedPatternLemmas.{resolved_pattern_list-of}
use Rattle.strategy_syntax.proofs.ResolvedLemmas.{resolved_list-resolveds_of}
use Rattle.strategy_syntax.proofs.StrategyLemmas.{depths-item}
use Rattle.strategy_check.specs.Tables.{Table, definition_number}
use Rattle.strategy_check.specs.Faults.{Primitives}
use Rattle.strategy_names.specs.Binders.{Binder, binder_number}
use Rattle.strategy_check.specs.Resolving.{Scope, with_variables, resolved_patterns, name_or_other, definition_or_constructor, resolved_strategy, resolved_strategies}
use Rattle.strategy_check.specs.inside.Closing.{without_variables}
use Rattle.strategy_names.proofs.BinderLemmas.{drop-bound_from}
use Rattle.strategy_check.proofs.FaultLemmas.{pattern_count, strategy_count}

pub closed_again : (E : Scope) (xs : List Symbol) → without_variables (with_variables E xs) (length xs) ≡ E
closed_again E xs = λ i. record {
  variables = drop-bound_from E.count xs E.variables i;
  count = back i;
  names = E.names;
} where
  back : (E.count + length xs) - length xs ≡ E.count
  back = omega arith

pub ruleset body_rules = (closed_again, depths-item, pattern_count, strategy_count)

abbrev then_strategies : ResolvedStrategies → ResolvedStrategies → ResolvedStrategies
then_strategies no_strategies rs = rs
then_strategies (and_strategy q qs) rs = and_strategy q (then_strategies qs rs)

resolveds_of-append : (qs rs : List ResolvedStrategy)
    → resolveds_of (qs ++ rs) ≡ then_strategies (resolveds_of qs) (resolveds_of rs)
resolveds_of-append [] rs = refl
resolveds_of-append (q ∷ qs) rs = ap (and_strategy q) (resolveds_of-append qs rs)

module _ (T : Table) (P : Primitives) (E : Scope) where
  resolved-append : (ss ts : List Strategy) → resolved_strategies T P E (strategies_of (ss ++ ts))
      ≡ then_strategies (resolved_strategies T P E (strategies_of ss)) (resolved_strategies T P E (strategies_of ts))
  resolved-append [] ts = refl
  resolved-append (s ∷ ss) ts = ap (and_strategy (resolved_strategy T P E s)) (resolved-append ss ts)

  -- one more strategy
  pub resolved-next : (ss : List Strategy) (made more : List ResolvedStrategy) (r : ResolvedStrategy) (i : ℕ)
      (s : Strategy) → i < length ss → s ≡ get_or ss i s
      → resolveds_of made ≡ resolved_strategies T P E (strategies_of (take i ss))
      → more ≡ made ++ r ∷ [] → r ≡ resolved_strategy T P E s
      → resolveds_of more ≡ resolved_strategies T P E (strategies_of (take (i + 1) ss))
  resolved-next ss made more r i s lt at same e is =
      rw add-one (ap resolveds_of e ∙ resolveds_of-append made (r ∷ [])
      ∙ (λ j. then_strategies (same j) (and_strategy (is j) no_strategies))
      ∙ sym (resolved-append (take i ss) (s ∷ []))
      ∙ ap (λ l. resolved_strategies T P E (strategies_of l))
      (ap (λ q. take i ss ++ q ∷ []) at ∙ sym (take-suc ss i s lt)))

-- ---- names with strategies and terms

resolved_pattern_count : (bs : List Binder) (ps : Patterns)
    → length (resolved_pattern_list (resolved_patterns bs ps)) ≡ length (pattern_list ps)
resolved_pattern_count bs no_patterns = refl
resolved_pattern_count bs (and_pattern p ps) = ap suc (resolved_pattern_count bs ps)

resolved_count : (T : Table) (P : Primitives) (E : Scope) (ss : Strategies)
    → length (resolved_list (resolved_strategies T P E ss)) ≡ length (strategy_list ss)
resolved_count T P E syntax.no_strategies = refl
resolved_count T P E (syntax.and_strategy s ss) = ap suc (resolved_count T P E ss)

module _ (T : Table) (P : Primitives) (E F : Scope) (f : Symbol) (ss : List Strategy) (ps : List Pattern)
    (rs : List ResolvedStrategy) (qs : List ResolvedPattern) where
  pub used : {X : Type 0} (r : Result ResolvedForm X) (s : Strategy)
      → s ≡ uses f (strategies_of ss) (patterns_of ps) → F ≡ E
      → resolveds_of rs ≡ resolved_strategies T P E (strategies_of ss)
      → resolved_patterns_of qs ≡ resolved_patterns F.variables (patterns_of ps)
      → IfOk r (λ form. resolved_of form ≡ name_or_other (binder_number f F.names) (definition_or_constructor f
      (definition_number T f (length rs) (length qs)) (resolveds_of rs) (resolved_patterns_of qs)))
      → IfOk r (λ form. resolved_of form ≡ resolved_strategy T P E s)
  used r s is same parts terms h =
      let scopes : resolved_patterns_of qs ≡ resolved_patterns E.variables (patterns_of ps) = terms
      ∙ ap (λ G. resolved_patterns G.variables (patterns_of ps)) same in
      let part_count : length rs ≡ length (strategy_list (strategies_of ss)) =
      ap length (sym (resolved_list-resolveds_of rs)) ∙ ap (λ l. length (resolved_list l)) parts
      ∙ resolved_count T P E (strategies_of ss) in
      let term_count : length qs ≡ length (pattern_list (patterns_of ps)) =
      ap length (sym (resolved_pattern_list-of qs)) ∙ ap (λ l. length (resolved_pattern_list l)) scopes
      ∙ resolved_pattern_count E.variables (patterns_of ps) in
      subst (λ t. IfOk r (λ form. resolved_of form ≡ t))
      ((λ i. name_or_other (binder_number f (same i).names)
      (definition_or_constructor f (definition_number T f (part_count i) (term_count i)) (parts i) (scopes i)))
      ∙ sym (ap (resolved_strategy T P E) is)) h
