-- Resolved strategies are in range.
use Rattle.std.proofs.Common.{◌≡◌, ℕ, zero, suc, ◌+◌, ◌<◌, ◌≤◌, ◌==◌, ◌&&◌, ◌||◌, Bool, true, false, not, List, [], ◌∷◌, ◌++◌, length, get_or, slice_get, Option, Some, None, is_some, unwrap_or, refl, sym, ap, ◌∙◌, subst, arith}
use Rattle.std.specs.Prelude.{if◌then◌else◌, IsSomeAnd, IfSome, ⊤}
use Rattle.std.proofs.lemmas.List.Quantifiers.{position-Some}
use Rattle.std.proofs.lemmas.Option.{slice_get_read}
use Rattle.std.proofs.lemmas.Bool.Decides.{Decides-eqb}
use Rattle.strategy_check.specs.declared.fault.FaultKind.{FaultKind}
use Rattle.strategy_check.specs.declared.fault.FaultKind.TheVariants.{Primitive}
use Rattle.term_core.specs.Tree.{Symbol, same_name}
use Rattle.prim_core.specs.Signature as primitive
use Rattle.prim_core.proofs.SignatureLemmas.{index_of-there}
use Rattle.strategy_syntax.specs.Syntax.{Pattern, wildcard, variable, at, number, compound, with_tail, annotated, Patterns, no_patterns, and_pattern, pattern_list, Strategy, id, fail, matches, builds, seq, guard, test, scope, uses, congruence, tail_congruence, all, one, some, child, rec, prim, Strategies, no_strategies, and_strategy, strategy_list}
use Rattle.strategy_syntax.specs.Resolved.{ResolvedPatterns, ResolvedStrategies, resolved_list, resolved_pattern_list}
use Rattle.strategy_syntax.specs.Variables.{variables, variables_of_all}
use Rattle.strategy_syntax.specs.Lists.{is_among, without}
use Rattle.strategy_names.specs.Binders.{Binder, binder_number, bound_from}
use Rattle.strategy_check.specs.Tables.{DefinitionKey, same_key, Table, definition_number}
use Rattle.strategy_check.specs.Faults.{Fault, Primitives, is_primitive, fault_if, repeated_names, name_faults, faults_of_patterns, strategy_faults, faults_of_strategies}
use Rattle.strategy_names.specs.Free.{free, free_in_all}
use Rattle.strategy_check.specs.Resolving.{Scope, with_variables, with_name, variable_number, resolved_pattern, resolved_patterns, name_or_other, definition_or_constructor, resolved_strategy, resolved_strategies}
use Rattle.strategy_check.specs.Ranges.{ResolvedPatternInRange, ResolvedPatternsInRange, InRange, AllInRange}
use Rattle.strategy_names.proofs.FreeLemmas.{bound_number}

-- ---- binders

-- each number is below n
abbrev pub AreBelow : ℕ → List Binder → Type 0
AreBelow n [] = ⊤
AreBelow n (b ∷ bs) = (b.number < n) × AreBelow n bs

pub below-more : (m n : ℕ) (bs : List Binder) → m ≤ n → AreBelow m bs → AreBelow n bs
below-more m n [] le below = tt
below-more m n (b ∷ bs) le below = (let h = below.0 in omega arith, below-more m n bs le below.1)

pub below-bound : (n k : ℕ) (xs : List Symbol) (bs : List Binder) → k + length xs ≤ n → AreBelow n bs
    → AreBelow n (bound_from k xs bs)
below-bound n k [] bs le below = below
below-bound n k (x ∷ xs) bs le below =
    below-bound n (k + 1) xs (record { name = x; number = k } ∷ bs) (omega arith) (omega arith, below)

number-below : (n : ℕ) (bs : List Binder) (x : Symbol) (o : Option ℕ) → binder_number x bs ≡ o → AreBelow n bs
    → IfSome o (λ k. k < n)
number-below n bs x None e below = tt
number-below n [] x (Some k) e below = absurd (cc)
number-below n (b ∷ bs) x (Some k) e below =
    by (same_name b.name x) e (λ e. number-below n bs x (Some k) e below.1) where
      by : (t : Bool) → (if t then Some b.number else binder_number x bs) ≡ Some k
          → (binder_number x bs ≡ Some k → k < n) → k < n
      by true e rest = let same : b.number ≡ k = cc in let h = below.0 in omega (arith, same, h)
      by false e rest = rest e

-- each has a binder
abbrev pub AreBound : List Binder → List Symbol → Type 0
AreBound bs [] = ⊤
AreBound bs (x ∷ xs) = (is_some (binder_number x bs) ≡ true) × AreBound bs xs

bound-left : (bs : List Binder) (xs ys : List Symbol) → AreBound bs (xs ++ ys) → AreBound bs xs
bound-left bs [] ys h = tt
bound-left bs (x ∷ xs) ys h = (h.0, bound-left bs xs ys h.1)

bound-right : (bs : List Binder) (xs ys : List Symbol) → AreBound bs (xs ++ ys) → AreBound bs ys
bound-right bs [] ys h = h
bound-right bs (x ∷ xs) ys h = bound-right bs xs ys h.1

or-true : (a b : Bool) → a ≡ true → (a || b) ≡ true
or-true a b e = ap (λ a. a || b) e

or-true-right : (a b : Bool) → b ≡ true → (a || b) ≡ true
or-true-right true b e = refl
or-true-right false b e = e

bound-inside : (k : ℕ) (bs : List Binder) (xs ys : List Symbol) → AreBound bs (without same_name xs ys)
    → AreBound (bound_from k xs bs) ys
bound-inside k bs xs [] h = tt
bound-inside k bs xs (y ∷ ys) h = by (is_among same_name y xs) refl h (bound-inside k bs xs ys) where
  by : (b : Bool)
      → is_among same_name y xs ≡ b → AreBound bs (if b then without same_name xs ys else y ∷ without same_name xs ys)
      → (AreBound bs (without same_name xs ys) → AreBound (bound_from k xs bs) ys)
      → AreBound (bound_from k xs bs) (y ∷ ys)
  by true e h rest =
      (bound_number k xs bs y ∙ or-true (is_among same_name y xs) (is_some (binder_number y bs)) e, rest h)
  by false e h rest =
      (bound_number k xs bs y ∙ or-true-right (is_among same_name y xs) (is_some (binder_number y bs)) h.0, rest h.1)

variable-below : (n : ℕ) (bs : List Binder) (x : Symbol) → AreBelow n bs
    → is_some (binder_number x bs) ≡ true → variable_number bs x < n
variable-below n bs x below there = by (binder_number x bs) refl there where
  by : (o : Option ℕ) → binder_number x bs ≡ o → is_some o ≡ true → unwrap_or o 0 < n
  by None e t = absurd (cc)
  by (Some k) e t = number-below n bs x (Some k) e below

-- ---- patterns

module _ (n : ℕ) (bs : List Binder) (below : AreBelow n bs) where
  mutual
    pub resolved_pattern-range : (p : Pattern) → AreBound bs (variables p)
        → ResolvedPatternInRange n (resolved_pattern bs p)
    resolved_pattern-range wildcard h = tt
    resolved_pattern-range (variable x) h = variable-below n bs x below h.0
    resolved_pattern-range (at x p) h = (variable-below n bs x below h.0, resolved_pattern-range p h.1)
    resolved_pattern-range (number z) h = tt
    resolved_pattern-range (compound g ps) h = resolved_patterns-range ps h
    resolved_pattern-range (with_tail ps p) h = (
      resolved_patterns-range ps (bound-left bs (variables_of_all ps) (variables p) h),
      resolved_pattern-range p (bound-right bs (variables_of_all ps) (variables p) h),
    )
    resolved_pattern-range (annotated p ps) h = (
      resolved_pattern-range p (bound-left bs (variables p) (variables_of_all ps) h),
      resolved_patterns-range ps (bound-right bs (variables p) (variables_of_all ps) h),
    )

    pub resolved_patterns-range : (ps : Patterns) → AreBound bs (variables_of_all ps)
        → ResolvedPatternsInRange n (resolved_patterns bs ps)
    resolved_patterns-range no_patterns h = tt
    resolved_patterns-range (and_pattern p ps) h = (
      resolved_pattern-range p (bound-left bs (variables p) (variables_of_all ps) h),
      resolved_patterns-range ps (bound-right bs (variables p) (variables_of_all ps) h),
    )

-- ---- the number of parts stays the same

resolved_pattern_count : (bs : List Binder) (ps : Patterns)
    → length (resolved_pattern_list (resolved_patterns bs ps)) ≡ length (pattern_list ps)
resolved_pattern_count bs no_patterns = refl
resolved_pattern_count bs (and_pattern p ps) = ap suc (resolved_pattern_count bs ps)

resolved_count : (T : Table) (P : Primitives) (E : Scope) (ss : Strategies)
    → length (resolved_list (resolved_strategies T P E ss)) ≡ length (strategy_list ss)
resolved_count T P E no_strategies = refl
resolved_count T P E (and_strategy s ss) = ap suc (resolved_count T P E ss)

-- ---- faults

pub left-none : (fs gs : List Fault) → fs ++ gs ≡ [] → fs ≡ []
left-none [] gs e = refl
left-none (f ∷ fs) gs e = absurd (cc)

pub right-none : (fs gs : List Fault) → fs ++ gs ≡ [] → gs ≡ []
right-none [] gs e = e
right-none (f ∷ fs) gs e = absurd (cc)

-- ---- definitions and primitives

and-left : (a b : Bool) → (a && b) ≡ true → a ≡ true
and-left true b e = refl
and-left false b e = e

and-right : (a b : Bool) → (a && b) ≡ true → b ≡ true
and-right true b e = e
and-right false b e = absurd (cc)

get_or_same : {X : Type 0} (xs : List X) (i : ℕ) (d e : X) → i < length xs → get_or xs i d ≡ get_or xs i e
get_or_same [] i d e lt = absurd (omega arith)
get_or_same (x ∷ xs) zero d e lt = refl
get_or_same (x ∷ xs) (suc i) d e lt = get_or_same xs i d e (omega arith)

-- the key at the number of a definition
pub numbered : (T : Table) (f : Symbol) (n m : ℕ) (o : Option ℕ) → definition_number T f n m ≡ o
    → IfSome o (λ i. IsSomeAnd (slice_get T.definitions i) (λ k. (k.strategies ≡ n) × (k.terms ≡ m)))
numbered T f n m None e = tt
numbered T f n m (Some i) e =
    let wanted : DefinitionKey = record { name = f; strategies = n; terms = m } in
    let found = position-Some (same_key wanted) T.definitions i wanted e in
    let k = get_or T.definitions i wanted in
    let there : slice_get T.definitions i ≡ Some k = slice_get_read T.definitions (length T.definitions) i k refl
    found.0 (get_or_same T.definitions i wanted k found.0) in
    let counts = and-right (same_name f k.name) ((n == k.strategies) && (m == k.terms)) found.1 in
    subst (λ o. IsSomeAnd o (λ k. (k.strategies ≡ n) × (k.terms ≡ m))) (sym there) (
      sym ((Decides-eqb n k.strategies).0 (and-left (n == k.strategies) (m == k.terms) counts)),
      sym ((Decides-eqb m k.terms).0 (and-right (n == k.strategies) (m == k.terms) counts)),
    )

-- the primitive at its number, if there is no fault about it
pub primitive_range : (P : Primitives) (n : Symbol) (m : ℕ) (o : Option ℕ)
    → primitive.index_of n.text m P ≡ o → is_some o ≡ true
    → IsSomeAnd (slice_get P (unwrap_or o 0)) (λ p. m ≡ p.arity)
primitive_range P n m None e there = absurd (cc)
primitive_range P n m (Some i) e there =
    subst (λ o. IsSomeAnd o (λ p. m ≡ p.arity)) (sym (index_of-there n.text m P (Some i) (sym e))) refl

no_fault : (b : Bool) (kind : FaultKind) (f : Symbol) (n m : ℕ) → fault_if (not b) kind f n m ≡ [] → b ≡ true
no_fault true kind f n m e = refl
no_fault false kind f n m e = absurd (cc)

-- ---- strategies

module _ (T : Table) (P : Primitives) where
  -- a name, with parts in range
  name_range : (n k : ℕ) (f : Symbol) (o : Option ℕ) (d : Option ℕ) (rs : ResolvedStrategies) (qs : ResolvedPatterns)
      → IfSome o (λ x. x < k) → IfSome d (λ i. IsSomeAnd (slice_get T.definitions i)
      (λ k. (k.strategies ≡ length (resolved_list rs)) × (k.terms ≡ length (resolved_pattern_list qs))))
      → AllInRange T.definitions P n k rs → ResolvedPatternsInRange n qs
      → InRange T.definitions P n k (name_or_other o (definition_or_constructor f d rs qs))
  name_range n k f (Some x) d rs qs below defined parts terms = below
  name_range n k f None (Some i) rs qs below defined parts terms = (defined, (parts, terms))
  name_range n k f None None rs qs below defined parts terms = parts

  mutual
    pub strategy_range : (E : Scope) (s : Strategy) → AreBelow E.count E.variables → AreBelow (length E.names) E.names
        → AreBound E.variables (free s)
        → strategy_faults T P E.names s
        ≡ [] → InRange T.definitions P E.count (length E.names) (resolved_strategy T P E s)
    strategy_range E id below named bound e = tt
    strategy_range E fail below named bound e = tt
    strategy_range E (matches p) below named bound e = resolved_pattern-range E.count E.variables below p bound
    strategy_range E (builds p) below named bound e = resolved_pattern-range E.count E.variables below p bound
    strategy_range E (seq r s) below named bound e = (
      strategy_range E r below named (bound-left E.variables (free r) (free s) bound)
          (left-none (strategy_faults T P E.names r) (strategy_faults T P E.names s) e),
      strategy_range E s below named (bound-right E.variables (free r) (free s) bound)
          (right-none (strategy_faults T P E.names r) (strategy_faults T P E.names s) e),
    )
    strategy_range E (guard q r s) below named bound e =
        let later =
        right-none (strategy_faults T P E.names q) (strategy_faults T P E.names r ++ strategy_faults T P E.names s) e in
        let inner = bound-right E.variables (free q) (free r ++ free s) bound in (
          strategy_range E q below named (bound-left E.variables (free q) (free r ++ free s) bound)
              (left-none (strategy_faults T P E.names q)
              (strategy_faults T P E.names r ++ strategy_faults T P E.names s) e),
          (
            strategy_range E r below named (bound-left E.variables (free r) (free s) inner)
                (left-none (strategy_faults T P E.names r) (strategy_faults T P E.names s) later),
            strategy_range E s below named (bound-right E.variables (free r) (free s) inner)
                (right-none (strategy_faults T P E.names r) (strategy_faults T P E.names s) later),
          ),
        )
    strategy_range E (test s) below named bound e = strategy_range E s below named bound e
    strategy_range E (scope xs s) below named bound e =
        strategy_range (with_variables E xs) s
        (below-bound (E.count + length xs) E.count xs E.variables (omega arith)
        (below-more E.count (E.count + length xs) E.variables (omega arith) below))
        named (bound-inside E.count E.variables xs (free s) bound)
        (right-none (repeated_names xs) (strategy_faults T P E.names s) e)
    strategy_range E (uses f ss ps) below named bound e =
        let n = length (strategy_list ss) in
        let m = length (pattern_list ps) in
        let later = right-none (name_faults T E.names f n m)
        (faults_of_strategies T P E.names ss ++ faults_of_patterns T true ps) e in
        name_range E.count (length E.names) f (binder_number f E.names) (definition_number T f n m)
        (resolved_strategies T P E ss) (resolved_patterns E.variables ps)
        (number-below (length E.names) E.names f (binder_number f E.names) refl named)
        (subst (λ a. IfSome (definition_number T f n m) (λ i. IsSomeAnd (slice_get T.definitions i)
        (λ k. (k.strategies ≡ a) × (k.terms ≡ length (resolved_pattern_list (resolved_patterns E.variables ps))))))
        (sym (resolved_count T P E ss))
        (subst (λ b. IfSome (definition_number T f n m) (λ i. IsSomeAnd (slice_get T.definitions i)
        (λ k. (k.strategies ≡ n) × (k.terms ≡ b)))) (sym (resolved_pattern_count E.variables ps))
        (numbered T f n m (definition_number T f n m) refl)))
        (strategies_range E ss below named (bound-left E.variables (free_in_all ss) (variables_of_all ps) bound)
        (left-none (faults_of_strategies T P E.names ss) (faults_of_patterns T true ps) later))
        (resolved_patterns-range E.count E.variables below ps
        (bound-right E.variables (free_in_all ss) (variables_of_all ps) bound))
    strategy_range E (congruence h ss) below named bound e = strategies_range E ss below named bound e
    strategy_range E (tail_congruence ss s) below named bound e = (
      strategies_range E ss below named (bound-left E.variables (free_in_all ss) (free s) bound)
          (left-none (faults_of_strategies T P E.names ss) (strategy_faults T P E.names s) e),
      strategy_range E s below named (bound-right E.variables (free_in_all ss) (free s) bound)
          (right-none (faults_of_strategies T P E.names ss) (strategy_faults T P E.names s) e),
    )
    strategy_range E (all s) below named bound e = strategy_range E s below named bound e
    strategy_range E (one s) below named bound e = strategy_range E s below named bound e
    strategy_range E (some s) below named bound e = strategy_range E s below named bound e
    strategy_range E (child i s) below named bound e = strategy_range E s below named bound e
    strategy_range E (rec f s) below named bound e =
        strategy_range (with_name E f) s below
        (omega arith, below-more (length E.names) (suc (length E.names)) E.names (omega arith) named) bound e
    strategy_range E (prim n ps) below named bound e =
        let m = length (pattern_list ps) in (
          subst (λ k. IsSomeAnd (slice_get P (unwrap_or (primitive.index_of n.text m P) 0)) (λ p. k ≡ p.arity))
              (sym (resolved_pattern_count E.variables ps))
              (primitive_range P n m (primitive.index_of n.text m P) refl (no_fault (is_primitive P n m) Primitive n m 0
              (left-none (fault_if (not (is_primitive P n m)) Primitive n m 0) (faults_of_patterns T true ps) e))),
          resolved_patterns-range E.count E.variables below ps bound,
        )

    strategies_range : (E : Scope) (ss : Strategies) → AreBelow E.count E.variables → AreBelow (length E.names) E.names
        → AreBound E.variables (free_in_all ss)
        → faults_of_strategies T P E.names ss
        ≡ [] → AllInRange T.definitions P E.count (length E.names) (resolved_strategies T P E ss)
    strategies_range E no_strategies below named bound e = tt
    strategies_range E (and_strategy s ss) below named bound e = (
      strategy_range E s below named (bound-left E.variables (free s) (free_in_all ss) bound)
          (left-none (strategy_faults T P E.names s) (faults_of_strategies T P E.names ss) e),
      strategies_range E ss below named (bound-right E.variables (free s) (free_in_all ss) bound)
          (right-none (strategy_faults T P E.names s) (faults_of_strategies T P E.names ss) e),
    )
