-- The variables that are met are the free ones.
use Rattle.std.proofs.Common.{◌≡◌, ℕ, ◌+◌, Bool, true, false, ◌||◌, List, [], ◌∷◌, ◌++◌, length, Option, Some, is_some, refl, sym, ap, ◌∙◌, arith, append_assoc, append-nil}
use Rattle.std.specs.Prelude.{if◌then◌else◌}
use Rattle.term_core.specs.Tree.{Symbol, same_name}
use Rattle.term_core.proofs.SameName.{same_name-sym}
use Rattle.strategy_syntax.specs.Syntax.{Pattern, wildcard, variable, at, number, compound, with_tail, annotated, Patterns, no_patterns, and_pattern, Strategy, id, fail, matches, builds, seq, guard, test, scope, uses, congruence, tail_congruence, all, one, some, child, rec, prim, Strategies, no_strategies, and_strategy}
use Rattle.strategy_syntax.specs.Variables.{variables, variables_of_all}
use Rattle.strategy_syntax.proofs.PatternLemmas.{patterns_depth-item}
use Rattle.strategy_syntax.proofs.StrategyLemmas.{depths-item}
use Rattle.strategy_syntax.specs.Lists.{is_among, first_ones, without}
use Rattle.strategy_names.specs.Binders.{Binder, binder_number, bound_from}
use Rattle.strategy_names.specs.Free.{free, free_in_all, free_variables}
use Rattle.strategy_names.specs.inside.Met.{met, met_in_pattern, met_in_patterns, met_in_strategy, met_in_strategies}
use Rattle.strategy_names.proofs.BinderLemmas.{drop-bound_from, length-bound_from}

abbrev pub met_names : List Binder → ℕ → List Binder → List Symbol → List Binder
met_names hidden n found [] = found
met_names hidden n found (x ∷ xs) = met_names hidden n (met hidden n found x) xs

pub ruleset free_rules = (patterns_depth-item, depths-item, drop-bound_from)

-- ---- which names have a binder

or_else : (b a : Bool) (o : Option ℕ) (k : ℕ) → a || is_some (if b then Some k else o) ≡ (b || a) || is_some o
or_else true true o k = refl
or_else true false o k = refl
or_else false true o k = refl
or_else false false o k = refl

pub bound_number : (k : ℕ) (xs : List Symbol) (bs : List Binder) (x : Symbol)
    → is_some (binder_number x (bound_from k xs bs)) ≡ (is_among same_name x xs || is_some (binder_number x bs))
bound_number k [] bs x = refl
bound_number k (y ∷ xs) bs x =
    bound_number (k + 1) xs (record { name = y; number = k } ∷ bs) x
    ∙ ap (λ b. is_among same_name x xs || is_some (if b then Some k else binder_number x bs)) (same_name-sym y x)
    ∙ or_else (same_name x y) (is_among same_name x xs) (binder_number x bs) k

abbrev binder : Symbol → ℕ → Binder
binder x k = record { name = x; number = k }

pub bound_from-last : (n : ℕ) (xs : List Symbol) (x : Symbol) (bs : List Binder)
    → bound_from n (xs ++ x ∷ []) bs ≡ record { name = x; number = n + length xs } ∷ bound_from n xs bs
bound_from-last n [] x bs = ap (λ k. binder x k ∷ bs) (omega arith)
bound_from-last n (y ∷ xs) x bs =
    bound_from-last (n + 1) xs x (record { name = y; number = n } ∷ bs)
    ∙ ap (λ k. binder x k ∷ bound_from (n + 1) xs (record { name = y; number = n } ∷ bs)) (omega arith)

-- ---- the variables of patterns, and those free in strategies

met_names-append : (hidden : List Binder) (n : ℕ) (found : List Binder) (xs ys : List Symbol)
    → met_names hidden n found (xs ++ ys) ≡ met_names hidden n (met_names hidden n found xs) ys
met_names-append hidden n found [] ys = refl
met_names-append hidden n found (x ∷ xs) ys = met_names-append hidden n (met hidden n found x) xs ys

module _ (hidden : List Binder) (n : ℕ) where
  mutual
    in_pattern : (found : List Binder) (p : Pattern)
        → met_in_pattern hidden n found p ≡ met_names hidden n found (variables p)
    in_pattern found wildcard = refl
    in_pattern found (variable x) = refl
    in_pattern found (at x p) = in_pattern (met hidden n found x) p
    in_pattern found (number z) = refl
    in_pattern found (compound h ps) = in_patterns found ps
    in_pattern found (with_tail ps p) =
        in_pattern (met_in_patterns hidden n found ps) p
        ∙ ap (λ B. met_names hidden n B (variables p)) (in_patterns found ps)
        ∙ sym (met_names-append hidden n found (variables_of_all ps) (variables p))
    in_pattern found (annotated p ps) =
        in_patterns (met_in_pattern hidden n found p) ps
        ∙ ap (λ B. met_names hidden n B (variables_of_all ps)) (in_pattern found p)
        ∙ sym (met_names-append hidden n found (variables p) (variables_of_all ps))

    in_patterns : (found : List Binder) (ps : Patterns)
        → met_in_patterns hidden n found ps ≡ met_names hidden n found (variables_of_all ps)
    in_patterns found no_patterns = refl
    in_patterns found (and_pattern p ps) =
        in_patterns (met_in_pattern hidden n found p) ps
        ∙ ap (λ B. met_names hidden n B (variables_of_all ps)) (in_pattern found p)
        ∙ sym (met_names-append hidden n found (variables p) (variables_of_all ps))

-- hidden names aren't added
not_met : (hidden : List Binder) (k n : ℕ) (found : List Binder) (xs ys : List Symbol)
    → met_names (bound_from k xs hidden) n found ys ≡ met_names hidden n found (without same_name xs ys)
not_met hidden k n found xs [] = refl
not_met hidden k n found xs (y ∷ ys) = by (is_among same_name y xs) refl (λ B. not_met hidden k n B xs ys) where
  test : is_some (binder_number y (bound_from k xs hidden))
      ≡ (is_among same_name y xs || is_some (binder_number y hidden))
  test = bound_number k xs hidden y

  by : (b : Bool) → is_among same_name y xs ≡ b
      → ((B : List Binder) → met_names (bound_from k xs hidden) n B ys ≡ met_names hidden n B (without same_name xs ys))
      → met_names (bound_from k xs hidden) n (met (bound_from k xs hidden) n found y) ys
      ≡ met_names hidden n found (if b then without same_name xs ys else y ∷ without same_name xs ys)
  by true e rest =
      ap (λ b. met_names (bound_from k xs hidden) n
      (if b || is_some (binder_number y found) then found else record { name = y; number = n + length found }
      ∷ found) ys) (test ∙ ap (λ b. b || is_some (binder_number y hidden)) e)
      ∙ rest found
  by false e rest =
      ap (λ b. met_names (bound_from k xs hidden) n
      (if b || is_some (binder_number y found) then found else record { name = y; number = n + length found }
      ∷ found) ys) (test ∙ ap (λ b. b || is_some (binder_number y hidden)) e)
      ∙ rest (met hidden n found y)

mutual
  in_strategy : (hidden : List Binder) (n : ℕ) (found : List Binder) (s : Strategy)
      → met_in_strategy hidden n found s ≡ met_names hidden n found (free s)
  in_strategy hidden n found id = refl
  in_strategy hidden n found fail = refl
  in_strategy hidden n found (matches p) = in_pattern hidden n found p
  in_strategy hidden n found (builds p) = in_pattern hidden n found p
  in_strategy hidden n found (seq r s) =
      in_strategy hidden n (met_in_strategy hidden n found r) s
      ∙ ap (λ B. met_names hidden n B (free s)) (in_strategy hidden n found r)
      ∙ sym (met_names-append hidden n found (free r) (free s))
  in_strategy hidden n found (guard q r s) =
      in_strategy hidden n (met_in_strategy hidden n (met_in_strategy hidden n found q) r) s
      ∙ ap (λ B. met_names hidden n B (free s)) (in_strategy hidden n (met_in_strategy hidden n found q) r
      ∙ ap (λ B. met_names hidden n B (free r)) (in_strategy hidden n found q))
      ∙ sym (met_names-append hidden n (met_names hidden n found (free q)) (free r) (free s))
      ∙ sym (met_names-append hidden n found (free q) (free r ++ free s))
  in_strategy hidden n found (test s) = in_strategy hidden n found s
  in_strategy hidden n found (scope xs s) = in_strategy (bound_from 0 xs hidden) n found s
      ∙ not_met hidden 0 n found xs (free s)
  in_strategy hidden n found (uses f ss ps) =
      in_patterns hidden n (met_in_strategies hidden n found ss) ps
      ∙ ap (λ B. met_names hidden n B (variables_of_all ps)) (in_strategies hidden n found ss)
      ∙ sym (met_names-append hidden n found (free_in_all ss) (variables_of_all ps))
  in_strategy hidden n found (congruence h ss) = in_strategies hidden n found ss
  in_strategy hidden n found (tail_congruence ss s) =
      in_strategy hidden n (met_in_strategies hidden n found ss) s
      ∙ ap (λ B. met_names hidden n B (free s)) (in_strategies hidden n found ss)
      ∙ sym (met_names-append hidden n found (free_in_all ss) (free s))
  in_strategy hidden n found (all s) = in_strategy hidden n found s
  in_strategy hidden n found (one s) = in_strategy hidden n found s
  in_strategy hidden n found (some s) = in_strategy hidden n found s
  in_strategy hidden n found (child i s) = in_strategy hidden n found s
  in_strategy hidden n found (rec f s) = in_strategy hidden n found s
  in_strategy hidden n found (prim m ps) = in_patterns hidden n found ps

  in_strategies : (hidden : List Binder) (n : ℕ) (found : List Binder) (ss : Strategies)
      → met_in_strategies hidden n found ss ≡ met_names hidden n found (free_in_all ss)
  in_strategies hidden n found no_strategies = refl
  in_strategies hidden n found (and_strategy s ss) =
      in_strategies hidden n (met_in_strategy hidden n found s) ss
      ∙ ap (λ B. met_names hidden n B (free_in_all ss)) (in_strategy hidden n found s)
      ∙ sym (met_names-append hidden n found (free s) (free_in_all ss))

-- ---- each once, without parameters

pub among-append : (x : Symbol) (xs ys : List Symbol)
    → is_among same_name x (xs ++ ys) ≡ (is_among same_name x xs || is_among same_name x ys)
among-append x [] ys = refl
among-append x (y ∷ xs) ys = ap (λ b. same_name x y || b) (among-append x xs ys)
    ∙ or_assoc (same_name x y) (is_among same_name x xs) (is_among same_name x ys)
  where
    or_assoc : (a b c : Bool) → (a || (b || c)) ≡ ((a || b) || c)
    or_assoc true b c = refl
    or_assoc false b c = refl

pub or-false : (b : Bool) → (b || false) ≡ b
or-false true = refl
or-false false = refl

module _ (parameters : List Symbol) (n : ℕ) where
  abbrev hidden_parameters : List Binder
  hidden_parameters = bound_from 0 parameters []

  first_met : (found ys : List Symbol) → met_names hidden_parameters n (bound_from n found []) ys
      ≡ bound_from n (found ++ first_ones same_name (parameters ++ found) ys) []
  first_met found [] = ap (λ l. bound_from n l []) (sym (append-nil found))
  first_met found (y ∷ ys) = by (is_among same_name y (parameters ++ found)) refl (λ found. first_met found ys) where
    test : (is_some (binder_number y hidden_parameters) || is_some (binder_number y (bound_from n found [])))
        ≡ is_among same_name y (parameters ++ found)
    test =
        (λ i. (bound_number 0 parameters [] y ∙ or-false (is_among same_name y parameters)) i
        || (bound_number n found [] y ∙ or-false (is_among same_name y found)) i)
        ∙ sym (among-append y parameters found)

    numbered : record { name = y; number = n + length (bound_from n found []) } ∷ bound_from n found []
        ≡ bound_from n (found ++ y ∷ []) []
    numbered = ap (λ k. binder y k ∷ bound_from n found []) (omega (arith, length-bound_from n found []))
        ∙ sym (bound_from-last n found y [])

    by : (b : Bool) → is_among same_name y (parameters ++ found) ≡ b
        → ((found : List Symbol) → met_names hidden_parameters n (bound_from n found []) ys
        ≡ bound_from n (found ++ first_ones same_name (parameters ++ found) ys) [])
        → met_names hidden_parameters n (met hidden_parameters n (bound_from n found []) y) ys
        ≡ bound_from n (found ++ (if b then first_ones same_name (parameters ++ found) ys else y
        ∷ first_ones same_name ((parameters ++ found) ++ y ∷ []) ys)) []
    by true e rest = ap (λ b. met_names hidden_parameters n
        (if b then bound_from n found [] else binder y (n + length (bound_from n found [])) ∷ bound_from n found []) ys)
        (test ∙ e) ∙ rest found
    by false e rest =
        ap (λ b. met_names hidden_parameters n
        (if b then bound_from n found [] else binder y (n + length (bound_from n found [])) ∷ bound_from n found []) ys)
        (test ∙ e)
        ∙ ap (λ B. met_names hidden_parameters n B ys) numbered
        ∙ rest (found ++ y ∷ [])
        ∙ ap (λ l. bound_from n l [])
        (append_assoc found (y ∷ []) (first_ones same_name (parameters ++ (found ++ y ∷ [])) ys)
        ∙ ap (λ l. found ++ y ∷ first_ones same_name l ys) (sym (append_assoc parameters found (y ∷ []))))

  pub met_free : (s : Strategy)
      → met_in_strategy hidden_parameters n [] s ≡ bound_from n (free_variables parameters s) []
  met_free s = in_strategy hidden_parameters n [] s ∙ first_met [] (free s)
      ∙ ap (λ l. bound_from n (first_ones same_name l (free s)) []) (append-nil parameters)
