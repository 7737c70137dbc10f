-- Programs are in range.
use Rattle.std.proofs.Common.{◌≡◌, ℕ, zero, suc, ◌+◌, ◌≤◌, ◌||◌, Bool, true, false, List, [], ◌∷◌, ◌++◌, length, map, slice_get, Option, Some, None, is_some, refl, sym, ap, ◌∙◌, subst, arith}
use Rattle.std.specs.Prelude.{if◌then◌else◌, IsSomeAnd, flat_map, ⊤}
use Rattle.std.proofs.lemmas.Bool.Decides.{Decides-eqb}
use Rattle.term_core.specs.Tree.{Symbol, same_name}
use Rattle.term_core.proofs.SameName.{same_name-self}
use Rattle.strategy_syntax.specs.Modules.{Definition}
use Rattle.strategy_syntax.specs.Syntax.{Strategy}
use Rattle.strategy_syntax.specs.Resolved.{ResolvedStrategy}
use Rattle.strategy_syntax.specs.declared.resolved.Resolved.{Resolved}
use Rattle.strategy_syntax.specs.Lists.{is_among, first_ones, with_new}
use Rattle.strategy_names.specs.Binders.{Binder, binder_number, bound_from}
use Rattle.strategy_check.specs.Tables.{DefinitionKey, same_key, Table, definition_number, Modules, keys_of, definitions_of, table_of}
use Rattle.strategy_check.specs.Faults.{Primitives, header_faults, definition_faults, parameter_names, module_faults, faults_from, faults, strategy_faults}
use Rattle.strategy_names.specs.Free.{free, free_variables}
use Rattle.strategy_check.specs.Resolving.{resolved_strategy}
use Rattle.strategy_check.specs.Programs.{Program, free_of, scope_of, variable_count, resolved_bodies, joined, term_count, joined_definition, is_number, of_number, groups_from, program, faults_of, resolved}
use Rattle.strategy_check.specs.Ranges.{InRange, IsInRange, BodiesInRange}
use Rattle.strategy_names.proofs.BinderLemmas.{bound_count}
use Rattle.strategy_names.proofs.FreeLemmas.{bound_number, among-append, or-false}
use Rattle.strategy_check.proofs.MentionLemmas.{Faultless}
use Rattle.strategy_check.proofs.RangeLemmas.{AreBelow, AreBound, below-bound, left-none, right-none, numbered, strategy_range}

-- ---- free variables have binders

or_assoc : (a b c : Bool) → ((a || (b || false)) || c) ≡ (a || (b || c))
or_assoc true b c = refl
or_assoc false true c = refl
or_assoc false false c = refl

or_second : (a b c : Bool) → b ≡ true → (a || (b || c)) ≡ true
or_second true b c e = refl
or_second false b c e = ap (λ b. b || c) e

bound_ones : (bs : List Binder) (seen xs : List Symbol)
    → ((x : Symbol) → (is_among same_name x seen || is_among same_name x (first_ones same_name seen xs))
    ≡ true → is_some (binder_number x bs) ≡ true)
    → AreBound bs xs
bound_ones bs seen [] h = tt
bound_ones bs seen (x ∷ xs) h =
    by (is_among same_name x seen) refl h (bound_ones bs seen xs) (bound_ones bs (seen ++ x ∷ []) xs) where
      by : (b : Bool) → is_among same_name x seen ≡ b
          → ((y : Symbol) → (is_among same_name y seen || is_among same_name y
          (if b then first_ones same_name seen xs else x ∷ first_ones same_name (seen ++ x ∷ []) xs))
          ≡ true → is_some (binder_number y bs) ≡ true)
          → (((y : Symbol) → (is_among same_name y seen || is_among same_name y (first_ones same_name seen xs))
          ≡ true → is_some (binder_number y bs) ≡ true) → AreBound bs xs)
          → (((y : Symbol) → (is_among same_name y (seen ++ x ∷ []) || is_among same_name y
          (first_ones same_name (seen ++ x ∷ []) xs)) ≡ true → is_some (binder_number y bs) ≡ true) → AreBound bs xs)
          → AreBound bs (x ∷ xs)
      by true e h again further = (h x (ap (λ b. b || is_among same_name x (first_ones same_name seen xs)) e), again h)
      by false e h again further = (
        h x (or_second (is_among same_name x seen) (same_name x x)
            (is_among same_name x (first_ones same_name (seen ++ x ∷ []) xs)) (same_name-self x)),
        further (λ y t. h y (
            sym
            (ap (λ b. b || is_among same_name y (first_ones same_name (seen ++ x ∷ []) xs))
            (among-append y seen (x ∷ []))
            ∙ or_assoc (is_among same_name y seen) (same_name y x)
            (is_among same_name y (first_ones same_name (seen ++ x ∷ []) xs)))
            ∙ t)),
      )

-- the free variables of a strategy, in addition to parameters
free_bound : (parameters : List Symbol) (n : ℕ) (s : Strategy)
    → AreBound (bound_from 0 parameters (bound_from n (free_variables parameters s) [])) (free s)
free_bound parameters n s =
    bound_ones (bound_from 0 parameters (bound_from n xs [])) parameters (free s)
    (λ x t. bound_number 0 parameters (bound_from n xs []) x
    ∙ ap (λ b. is_among same_name x parameters || b) (bound_number n xs [] x ∙ or-false (is_among same_name x xs)) ∙ t)
  where
    xs : List Symbol
    xs = free_variables parameters s

-- ---- the bodies of one definition

-- the numbers of a list of names are below its length
names_below : (xs : List Symbol) → AreBelow (length (bound_from 0 xs [])) (bound_from 0 xs [])
names_below xs = below-bound (length (bound_from 0 xs [])) 0 xs [] (let e = bound_count 0 xs in omega (arith, e)) tt

module _ (T : Table) (P : Primitives) where
  -- a definition with this key and a body without faults
  pub record Suits (k : DefinitionKey) (d : Definition) : Type 0 where
    pub strategies : k.strategies ≡ length d.strategy_parameters
    pub terms : k.terms ≡ length d.term_parameters
    pub faultless : strategy_faults T P (parameter_names d) d.body ≡ []

  abbrev pub AllSuit : DefinitionKey → List Definition → Type 0
  AllSuit k [] = ⊤
  AllSuit k (d ∷ ds) = Suits k d × AllSuit k ds

  abbrev AllIn : ℕ → ℕ → List ResolvedStrategy → Type 0
  AllIn n m [] = ⊤
  AllIn n m (r ∷ rs) = InRange T.definitions P n m r × AllIn n m rs

  body_range : (k : DefinitionKey) (first count : ℕ) (d : Definition) → Suits k d
      → first + length (free_of d) ≤ count → k.terms ≤ count
      → InRange T.definitions P count k.strategies (resolved_strategy T P (scope_of first count d) d.body)
  body_range k first count d suits free_fit terms_fit =
      let names : length (bound_from 0 d.strategy_parameters []) ≡ k.strategies = bound_count 0 d.strategy_parameters
      ∙ sym suits.strategies in
      let fit : 0 + length d.term_parameters ≤ count = let e = suits.terms in omega (arith, e) in
      subst (λ m. InRange T.definitions P count m (resolved_strategy T P (scope_of first count d) d.body)) names
      (strategy_range T P (scope_of first count d) d.body
      (below-bound count 0 d.term_parameters (bound_from first (free_of d) []) fit
      (below-bound count first (free_of d) [] free_fit tt))
      (names_below d.strategy_parameters) (free_bound d.term_parameters first d.body) suits.faultless)

  bodies_range : (k : DefinitionKey) (first count : ℕ) (ds : List Definition) → AllSuit k ds
      → first + variable_count ds ≤ count → k.terms ≤ count
      → AllIn count k.strategies (resolved_bodies T P first count ds)
  bodies_range k first count [] suit fit terms_fit = tt
  bodies_range k first count (d ∷ ds) suit fit terms_fit = (
    body_range k first count d suit.0 (omega arith) terms_fit,
    bodies_range k (first + length (free_of d)) count ds suit.1 (omega arith) terms_fit,
  )

  joined_range : (n m : ℕ) (rs : List ResolvedStrategy) → AllIn n m rs → InRange T.definitions P n m (joined rs)
  joined_range n m [] h = tt
  joined_range n m (r ∷ []) h = h.0
  joined_range n m (r ∷ (q ∷ rs)) h = (h.0, (tt, joined_range n m (q ∷ rs) h.1))

  joined_definition_range : (k : DefinitionKey) (ds : List Definition) → AllSuit k ds
      → InRange T.definitions P (k.terms + variable_count ds) k.strategies
      (joined (resolved_bodies T P (term_count ds) (term_count ds + variable_count ds) ds))
  joined_definition_range k [] suit = tt
  joined_definition_range k (d ∷ ds) suit =
      subst (λ t. InRange T.definitions P (k.terms + variable_count (d ∷ ds)) k.strategies
      (joined (resolved_bodies T P t (t + variable_count (d ∷ ds)) (d ∷ ds)))) suit.0.terms
      (joined_range (k.terms + variable_count (d ∷ ds)) k.strategies
      (resolved_bodies T P k.terms (k.terms + variable_count (d ∷ ds)) (d ∷ ds))
      (bodies_range k k.terms (k.terms + variable_count (d ∷ ds)) (d ∷ ds) suit (omega arith) (omega arith)))

  -- ---- those of one number

  same_some : {X : Type 0} {x y : X} → Some x ≡ Some y → x ≡ y
  same_some e = cc

  key_suits : (k : DefinitionKey) (i : ℕ) (d : Definition) (o : Option ℕ)
      → definition_number T d.name (length d.strategy_parameters) (length d.term_parameters) ≡ o → is_number i o ≡ true
      → slice_get T.definitions i ≡ Some k → strategy_faults T P (parameter_names d) d.body ≡ [] → Suits k d
  key_suits k i d None e t there none = absurd (cc)
  key_suits k i d (Some j) e t there none =
      let same : i ≡ j = (Decides-eqb i j).0 t in
      let found = numbered T d.name (length d.strategy_parameters) (length d.term_parameters) (Some j) e in
      let at : IsSomeAnd (Some k) (λ k.
      (k.strategies ≡ length d.strategy_parameters) × (k.terms ≡ length d.term_parameters)) =
      subst
      (λ o. IsSomeAnd o (λ k. (k.strategies ≡ length d.strategy_parameters) × (k.terms ≡ length d.term_parameters)))
      (ap (slice_get T.definitions) (sym same) ∙ there) found in
      record { strategies = at.0; terms = at.1; faultless = none }

  all_suit : (k : DefinitionKey) (i : ℕ) (ds : List Definition) → slice_get T.definitions i ≡ Some k → Faultless T P ds
      → AllSuit k (of_number T ds i)
  all_suit k i [] there none = tt
  all_suit k i (d ∷ ds) there none =
      by (is_number i (definition_number T d.name (length d.strategy_parameters) (length d.term_parameters))) refl
      (all_suit k i ds there none.1) where
        by : (b : Bool)
            → is_number i (definition_number T d.name (length d.strategy_parameters) (length d.term_parameters))
            ≡ b → AllSuit k (of_number T ds i)
            → AllSuit k (if b then d ∷ of_number T ds i else of_number T ds i)
        by true e rest = (
          key_suits k i d (definition_number T d.name (length d.strategy_parameters) (length d.term_parameters)) refl e
              there none.0,
          rest,
        )
        by false e rest = rest

  -- ---- all of them

  at_number : (Q : Resolved → Type 0) (ds : List Definition) (i f : ℕ) (ks : List DefinitionKey) (k : DefinitionKey)
      → slice_get ks f ≡ Some k
      → Q (joined_definition T P (of_number T ds (i + f)))
      → IsSomeAnd (slice_get (map (joined_definition T P) (groups_from T ds i ks)) f) Q
  at_number Q ds i f [] k e q = absurd (cc)
  at_number Q ds i zero (h ∷ ks) k e q = subst (λ n. Q (joined_definition T P (of_number T ds n))) (omega arith) q
  at_number Q ds i (suc f) (h ∷ ks) k e q =
      at_number Q ds (i + 1) f ks k e (subst (λ n. Q (joined_definition T P (of_number T ds n))) (omega arith) q)

  faultless-append : (ds es : List Definition) → Faultless T P ds → Faultless T P es → Faultless T P (ds ++ es)
  faultless-append [] es h k = k
  faultless-append (d ∷ ds) es h k = (h.0, faultless-append ds es h.1 k)

  faultless_definitions : (earlier : List DefinitionKey) (ds : List Definition)
      → flat_map (definition_faults T P earlier) ds ≡ [] → Faultless T P ds
  faultless_definitions earlier [] e = tt
  faultless_definitions earlier (d ∷ ds) e = (
    right-none (header_faults T earlier d) (strategy_faults T P (parameter_names d) d.body)
        (left-none (definition_faults T P earlier d) (flat_map (definition_faults T P earlier) ds) e),
    faultless_definitions earlier ds
        (right-none (definition_faults T P earlier d) (flat_map (definition_faults T P earlier) ds) e),
  )

  faultless_modules : (earlier : List DefinitionKey) (ms : Modules)
      → faults_from T P earlier ms ≡ [] → Faultless T P (definitions_of ms)
  faultless_modules earlier [] e = tt
  faultless_modules earlier (m ∷ ms) e =
      let rest = faults_from T P (with_new same_key earlier (keys_of m.1.definitions)) ms in
      faultless-append m.1.definitions (definitions_of ms)
      (faultless_definitions earlier m.1.definitions (left-none (module_faults T P earlier m.1) rest e))
      (faultless_modules (with_new same_key earlier (keys_of m.1.definitions)) ms
      (right-none (module_faults T P earlier m.1) rest e))

pub bodies_in_range : (ms : Modules) (P : Primitives) → faults ms P ≡ [] → BodiesInRange (program ms P) P
bodies_in_range ms P e f k there =
    at_number (table_of ms) P (λ r. IsInRange (program ms P) P k.terms k.strategies r) (definitions_of ms) 0 f
    (table_of ms).definitions k there
    (subst (λ n. IsInRange (program ms P) P k.terms k.strategies
    (joined_definition (table_of ms) P (of_number (table_of ms) (definitions_of ms) n))) (omega arith)
    (joined_definition_range (table_of ms) P k (of_number (table_of ms) (definitions_of ms) f)
    (all_suit (table_of ms) P k f (definitions_of ms) there (faultless_modules (table_of ms) P [] ms e))))

pub resolved_range : (p : Program) (P : Primitives) (s : Strategy)
    → faults_of p P s ≡ [] → IsInRange p P 0 0 (resolved p P s)
resolved_range p P s e =
    let xs = free_variables [] s in
    subst (λ n. InRange p.table.definitions P n 0 (resolved p P s).strategy) (omega arith)
    (strategy_range p.table P (record { variables = bound_from 0 xs []; count = length xs; names = [] }) s
    (below-bound (length xs) 0 xs [] (omega arith) tt) tt (free_bound [] 0 s) e)
