-- What bodies mention: the table of it, and the faults that stay away as long as it is defined.
use Rattle.std.proofs.Common.{◌≡◌, ℕ, suc, ◌+◌, Bool, true, false, not, ◌&&◌, ◌||◌, ◌==◌, List, [], ◌∷◌, ◌++◌, length, Some, None, is_some, refl, sym, ap, ◌∙◌, arith}
use Rattle.std.specs.Prelude.{nat_lt, if◌then◌else◌, cond, position, ⊤}
use Rattle.std.specs.List.{list_any, position_or_len}
use Rattle.std.proofs.lemmas.List.Folds.{list_any-append}
use Rattle.std.proofs.lemmas.Bool.Decides.{Decides-eqb, nat_tests}
use Rattle.indexmap.specs.IndexSet.{insert_key}
use Rattle.term_core.specs.Tree.{Symbol, Head, application, list, tuple}
use Rattle.term_core.proofs.SameName.{same_name-self}
use Rattle.strategy_syntax.specs.Syntax.{Pattern, wildcard, variable, at, number, compound, with_tail, annotated, Patterns, no_patterns, and_pattern, pattern_list, Strategy, id, fail, matches, builds, seq, guard, test, scope, uses, congruence, tail_congruence, all, one, some, child, rec, prim, Strategies, no_strategies, and_strategy, strategy_list}
use Rattle.strategy_syntax.specs.Modules.{Constructor, Definition}
use Rattle.strategy_syntax.specs.Lists.{is_among}
use Rattle.strategy_syntax.proofs.PatternLemmas.{patterns_depth-item}
use Rattle.strategy_syntax.proofs.StrategyLemmas.{depths-item}
use Rattle.strategy_check.specs.declared.fault.FaultKind.TheVariants.{Unknown, Undeclared, Wild, Parameter, Primitive}
use Rattle.strategy_names.specs.Binders.{Binder, binder_number}
use Rattle.strategy_check.specs.Tables.{DefinitionKey, same_key, same_constructor, Table, is_defined, is_declared}
use Rattle.strategy_check.specs.Faults.{Fault, Primitives, is_primitive, fault_if, repeated_names, head_faults, pattern_faults, faults_of_patterns, name_faults, strategy_faults, faults_of_strategies, parameter_names}
use Rattle.strategy_check.specs.inside.Mentions.{HeadCovered, PatternCovered, PatternsCovered, NameCovered, Covered, AllCovered, BodiesCovered, Keeps}
use Rattle.strategy_check.specs.inside.Mentioned.{with_key, with_constructor, mentioned_by_head, mentioned_in_pattern, mentioned_in_patterns, mentioned_by_name, mentioned_in_strategy, mentioned_in_strategies, mentioned_in_body, mentioned_in_bodies}
use Rattle.strategy_check.proofs.FaultLemmas.{pattern_count, strategy_count}
use Rattle.strategy_check.proofs.RangeLemmas.{left-none, right-none}
use Rattle.strategy_check.proofs.ReplacingLemmas.{same_key-self}

pub ruleset mention_rules = (pattern_count, strategy_count, patterns_depth-item, depths-item)

-- ---- keys in a set

module _ {X : Type 0} (same : X → X → Bool) (ks : List X) (k : X) where
  among-insert : (x : X) → is_among same x ks ≡ true → is_among same x (insert_key same ks k) ≡ true
  among-insert x e = by (is_among same k ks) where
    by : (b : Bool) → is_among same x (if b then ks else ks ++ k ∷ []) ≡ true
    by true = e
    by false = list_any-append (same x) ks (k ∷ []) ∙ ap (λ b. b || (same x k || false)) e

  inserted : same k k ≡ true → is_among same k (insert_key same ks k) ≡ true
  inserted self = by (is_among same k ks) refl where
    by : (b : Bool) → is_among same k ks ≡ b → is_among same k (if b then ks else ks ++ k ∷ []) ≡ true
    by true e = e
    by false e = list_any-append (same k) ks (k ∷ []) ∙ ap (λ b. b || (same k k || false)) e ∙ ap (λ b. b || false) self

-- a key with an index is among the keys
found-among : {X : Type 0} (p : X → Bool) (xs : List X) → nat_lt (position_or_len p xs) (length xs) ≡ list_any p xs
found-among p [] = refl
found-among p (x ∷ xs) = by (p x) (found-among p xs) where
  by : (b : Bool) → nat_lt (position_or_len p xs) (length xs) ≡ list_any p xs
      → nat_lt (cond (not b) (1 + position_or_len p xs) 0) (suc (length xs)) ≡ (b || list_any p xs)
  by true rest = grind (arith, nat_tests)
  by false rest = grind (arith, nat_tests)

pub position-among : {X : Type 0} (p : X → Bool) (xs : List X) → is_some (position p xs) ≡ list_any p xs
position-among p xs = by (nat_lt (position_or_len p xs) (length xs)) ∙ found-among p xs where
  by : (b : Bool) → is_some (cond b (Some (position_or_len p xs)) None) ≡ b
  by true = refl
  by false = refl

eqb-self : (n : ℕ) → (n == n) ≡ true
eqb-self n = (Decides-eqb n n).1 refl

pub same_constructor-self : (c : Constructor) → same_constructor c c ≡ true
same_constructor-self c = ap (λ b. b && (c.arity == c.arity)) (same_name-self c.name) ∙ eqb-self c.arity

-- ---- what is in a table stays in one that has more

record HasMore (M : Table) (N : Table) : Type 0 where
  pub definitions : (f : Symbol) (n m : ℕ) → is_defined M f n m ≡ true → is_defined N f n m ≡ true
  pub constructors : (f : Symbol) (n : ℕ) → is_declared M f n ≡ true → is_declared N f n ≡ true

same_more : (M : Table) → HasMore M M
same_more M = record { definitions = λ f n m e. e; constructors = λ f n e. e }

then_more : {L M N : Table} → HasMore L M → HasMore M N → HasMore L N
then_more h k = record {
  definitions = λ f n m e. k.definitions f n m (h.definitions f n m e);
  constructors = λ f n e. k.constructors f n (h.constructors f n e);
}

more_key : (M : Table) (f : Symbol) (n m : ℕ) → HasMore M (with_key M f n m)
more_key M f n m = record {
  definitions = λ g i j e.
      let k : DefinitionKey = record { name = g; strategies = i; terms = j } in
      let new : DefinitionKey = record { name = f; strategies = n; terms = m } in
      position-among (same_key k) (insert_key same_key M.definitions new)
      ∙ among-insert same_key M.definitions new k (sym (position-among (same_key k) M.definitions) ∙ e);
  constructors = λ g i e. e;
}

more_constructor : (M : Table) (f : Symbol) (n : ℕ) → HasMore M (with_constructor M f n)
more_constructor M f n = record {
  definitions = λ g i j e. e;
  constructors = λ g i e.
      among-insert same_constructor M.constructors (record { name = f; arity = n }) (record { name = g; arity = i }) e;
}

key_there : (M : Table) (f : Symbol) (n m : ℕ) → is_defined (with_key M f n m) f n m ≡ true
key_there M f n m =
    let k : DefinitionKey = record { name = f; strategies = n; terms = m } in
    position-among (same_key k) (insert_key same_key M.definitions k)
    ∙ inserted same_key M.definitions k (same_key-self k)

constructor_there : (M : Table) (f : Symbol) (n : ℕ) → is_declared (with_constructor M f n) f n ≡ true
constructor_there M f n =
    let c : Constructor = record { name = f; arity = n } in
    inserted same_constructor M.constructors c (same_constructor-self c)

module _ {M N : Table} (more : HasMore M N) where
  head_stays : (h : Head) (n : ℕ) → HeadCovered M h n → HeadCovered N h n
  head_stays (application f) n h = more.constructors f n h
  head_stays list n h = tt
  head_stays tuple n h = tt

  mutual
    pattern_stays : (p : Pattern) → PatternCovered M p → PatternCovered N p
    pattern_stays wildcard h = tt
    pattern_stays (variable x) h = tt
    pattern_stays (at x p) h = pattern_stays p h
    pattern_stays (number z) h = tt
    pattern_stays (compound g ps) h = (head_stays g (length (pattern_list ps)) h.0, patterns_stay ps h.1)
    pattern_stays (with_tail ps p) h = (patterns_stay ps h.0, pattern_stays p h.1)
    pattern_stays (annotated p ps) h = (pattern_stays p h.0, patterns_stay ps h.1)

    patterns_stay : (ps : Patterns) → PatternsCovered M ps → PatternsCovered N ps
    patterns_stay no_patterns h = tt
    patterns_stay (and_pattern p ps) h = (pattern_stays p h.0, patterns_stay ps h.1)

  name_stays : (b : Bool) (f : Symbol) (n m : ℕ) → NameCovered M b f n m → NameCovered N b f n m
  name_stays true f n m h = tt
  name_stays false f n m h = (more.definitions f n m h.0, more.constructors f n h.1)

  mutual
    stays : (names : List Binder) (s : Strategy) → Covered M names s → Covered N names s
    stays names id h = tt
    stays names fail h = tt
    stays names (matches p) h = pattern_stays p h
    stays names (builds p) h = pattern_stays p h
    stays names (seq r s) h = (stays names r h.0, stays names s h.1)
    stays names (guard q r s) h = (stays names q h.0, (stays names r h.1.0, stays names s h.1.1))
    stays names (test s) h = stays names s h
    stays names (scope xs s) h = stays names s h
    stays names (uses f ss ps) h = (
      name_stays (is_some (binder_number f names)) f (length (strategy_list ss)) (length (pattern_list ps)) h.0,
      (all_stay names ss h.1.0, patterns_stay ps h.1.1),
    )
    stays names (congruence g ss) h = all_stay names ss h
    stays names (tail_congruence ss s) h = (all_stay names ss h.0, stays names s h.1)
    stays names (all s) h = stays names s h
    stays names (one s) h = stays names s h
    stays names (some s) h = stays names s h
    stays names (child i s) h = stays names s h
    stays names (rec f s) h = stays (record { name = f; number = length names } ∷ names) s h
    stays names (prim n ps) h = patterns_stay ps h

    all_stay : (names : List Binder) (ss : Strategies) → AllCovered M names ss → AllCovered N names ss
    all_stay names no_strategies h = tt
    all_stay names (and_strategy s ss) h = (stays names s h.0, all_stay names ss h.1)

-- ---- what is mentioned is added to a table

more_head : (M : Table) (h : Head) (n : ℕ) → HasMore M (mentioned_by_head M h n)
more_head M (application f) n = more_constructor M f n
more_head M list n = same_more M
more_head M tuple n = same_more M

mutual
  more_pattern : (M : Table) (p : Pattern) → HasMore M (mentioned_in_pattern M p)
  more_pattern M wildcard = same_more M
  more_pattern M (variable x) = same_more M
  more_pattern M (at x p) = more_pattern M p
  more_pattern M (number z) = same_more M
  more_pattern M (compound h ps) =
      let n = length (pattern_list ps) in
      then_more (more_head M h n) (more_patterns (mentioned_by_head M h n) ps)
  more_pattern M (with_tail ps p) = then_more (more_patterns M ps) (more_pattern (mentioned_in_patterns M ps) p)
  more_pattern M (annotated p ps) = then_more (more_pattern M p) (more_patterns (mentioned_in_pattern M p) ps)

  more_patterns : (M : Table) (ps : Patterns) → HasMore M (mentioned_in_patterns M ps)
  more_patterns M no_patterns = same_more M
  more_patterns M (and_pattern p ps) = then_more (more_pattern M p) (more_patterns (mentioned_in_pattern M p) ps)

more_name : (M : Table) (b : Bool) (f : Symbol) (n m : ℕ) → HasMore M (mentioned_by_name M b f n m)
more_name M true f n m = same_more M
more_name M false f n m = then_more (more_key M f n m) (more_constructor (with_key M f n m) f n)

mutual
  more_strategy : (names : List Binder) (M : Table) (s : Strategy) → HasMore M (mentioned_in_strategy names M s)
  more_strategy names M id = same_more M
  more_strategy names M fail = same_more M
  more_strategy names M (matches p) = more_pattern M p
  more_strategy names M (builds p) = more_pattern M p
  more_strategy names M (seq r s) =
      then_more (more_strategy names M r) (more_strategy names (mentioned_in_strategy names M r) s)
  more_strategy names M (guard q r s) =
      let N = mentioned_in_strategy names M q in
      then_more (more_strategy names M q)
      (then_more (more_strategy names N r) (more_strategy names (mentioned_in_strategy names N r) s))
  more_strategy names M (test s) = more_strategy names M s
  more_strategy names M (scope xs s) = more_strategy names M s
  more_strategy names M (uses f ss ps) =
      let b = is_some (binder_number f names) in
      let n = length (strategy_list ss) in
      let m = length (pattern_list ps) in
      let N = mentioned_by_name M b f n m in
      then_more (more_name M b f n m)
      (then_more (more_strategies names N ss) (more_patterns (mentioned_in_strategies names N ss) ps))
  more_strategy names M (congruence h ss) = more_strategies names M ss
  more_strategy names M (tail_congruence ss s) =
      then_more (more_strategies names M ss) (more_strategy names (mentioned_in_strategies names M ss) s)
  more_strategy names M (all s) = more_strategy names M s
  more_strategy names M (one s) = more_strategy names M s
  more_strategy names M (some s) = more_strategy names M s
  more_strategy names M (child i s) = more_strategy names M s
  more_strategy names M (rec f s) = more_strategy (record { name = f; number = length names } ∷ names) M s
  more_strategy names M (prim n ps) = more_patterns M ps

  more_strategies : (names : List Binder) (M : Table) (ss : Strategies) → HasMore M (mentioned_in_strategies names M ss)
  more_strategies names M no_strategies = same_more M
  more_strategies names M (and_strategy s ss) =
      then_more (more_strategy names M s) (more_strategies names (mentioned_in_strategy names M s) ss)

more_bodies : (M : Table) (ds : List Definition) → HasMore M (mentioned_in_bodies M ds)
more_bodies M [] = same_more M
more_bodies M (d ∷ ds) = then_more (more_strategy (parameter_names d) M d.body) (more_bodies (mentioned_in_body M d) ds)

-- ---- and so the table covers it

head_covered : (M : Table) (h : Head) (n : ℕ) → HeadCovered (mentioned_by_head M h n) h n
head_covered M (application f) n = constructor_there M f n
head_covered M list n = tt
head_covered M tuple n = tt

mutual
  pattern_covered : (M : Table) (p : Pattern) → PatternCovered (mentioned_in_pattern M p) p
  pattern_covered M wildcard = tt
  pattern_covered M (variable x) = tt
  pattern_covered M (at x p) = pattern_covered M p
  pattern_covered M (number z) = tt
  pattern_covered M (compound h ps) =
      let n = length (pattern_list ps) in
      let N = mentioned_by_head M h n in
      (head_stays (more_patterns N ps) h n (head_covered M h n), patterns_covered N ps)
  pattern_covered M (with_tail ps p) =
      let N = mentioned_in_patterns M ps in
      (patterns_stay (more_pattern N p) ps (patterns_covered M ps), pattern_covered N p)
  pattern_covered M (annotated p ps) =
      let N = mentioned_in_pattern M p in
      (pattern_stays (more_patterns N ps) p (pattern_covered M p), patterns_covered N ps)

  patterns_covered : (M : Table) (ps : Patterns) → PatternsCovered (mentioned_in_patterns M ps) ps
  patterns_covered M no_patterns = tt
  patterns_covered M (and_pattern p ps) =
      let N = mentioned_in_pattern M p in
      (pattern_stays (more_patterns N ps) p (pattern_covered M p), patterns_covered N ps)

name_covered : (M : Table) (b : Bool) (f : Symbol) (n m : ℕ) → NameCovered (mentioned_by_name M b f n m) b f n m
name_covered M true f n m = tt
name_covered M false f n m = (key_there M f n m, constructor_there (with_key M f n m) f n)

mutual
  strategy_covered : (names : List Binder) (M : Table) (s : Strategy)
      → Covered (mentioned_in_strategy names M s) names s
  strategy_covered names M id = tt
  strategy_covered names M fail = tt
  strategy_covered names M (matches p) = pattern_covered M p
  strategy_covered names M (builds p) = pattern_covered M p
  strategy_covered names M (seq r s) =
      let N = mentioned_in_strategy names M r in
      (stays (more_strategy names N s) names r (strategy_covered names M r), strategy_covered names N s)
  strategy_covered names M (guard q r s) =
      let N = mentioned_in_strategy names M q in
      let L = mentioned_in_strategy names N r in (
        stays (then_more (more_strategy names N r) (more_strategy names L s)) names q (strategy_covered names M q),
        (stays (more_strategy names L s) names r (strategy_covered names N r), strategy_covered names L s),
      )
  strategy_covered names M (test s) = strategy_covered names M s
  strategy_covered names M (scope xs s) = strategy_covered names M s
  strategy_covered names M (uses f ss ps) =
      let b = is_some (binder_number f names) in
      let n = length (strategy_list ss) in
      let m = length (pattern_list ps) in
      let N = mentioned_by_name M b f n m in
      let L = mentioned_in_strategies names N ss in (
        name_stays (then_more (more_strategies names N ss) (more_patterns L ps)) b f n m (name_covered M b f n m),
        (all_stay (more_patterns L ps) names ss (strategies_covered names N ss), patterns_covered L ps),
      )
  strategy_covered names M (congruence h ss) = strategies_covered names M ss
  strategy_covered names M (tail_congruence ss s) =
      let N = mentioned_in_strategies names M ss in
      (all_stay (more_strategy names N s) names ss (strategies_covered names M ss), strategy_covered names N s)
  strategy_covered names M (all s) = strategy_covered names M s
  strategy_covered names M (one s) = strategy_covered names M s
  strategy_covered names M (some s) = strategy_covered names M s
  strategy_covered names M (child i s) = strategy_covered names M s
  strategy_covered names M (rec f s) = strategy_covered (record { name = f; number = length names } ∷ names) M s
  strategy_covered names M (prim n ps) = patterns_covered M ps

  strategies_covered : (names : List Binder) (M : Table) (ss : Strategies)
      → AllCovered (mentioned_in_strategies names M ss) names ss
  strategies_covered names M no_strategies = tt
  strategies_covered names M (and_strategy s ss) =
      let N = mentioned_in_strategy names M s in
      (stays (more_strategies names N ss) names s (strategy_covered names M s), strategies_covered names N ss)

pub bodies_covered : (M : Table) (ds : List Definition) → BodiesCovered (mentioned_in_bodies M ds) ds
bodies_covered M [] = tt
bodies_covered M (d ∷ ds) =
    let names = parameter_names d in
    let N = mentioned_in_body M d in
    (stays (more_bodies N ds) names d.body (strategy_covered names M d.body), bodies_covered N ds)

-- ---- no new fault appears in a table that keeps what is mentioned

-- two parts, each of which stays without faults
pub both_none : (fs gs hs ks : List Fault) → (fs ≡ [] → hs ≡ []) → (gs ≡ [] → ks ≡ []) → fs ++ gs ≡ [] → hs ++ ks ≡ []
both_none fs gs hs ks f g e = λ i. f (left-none fs gs e) i ++ g (right-none fs gs e) i

-- no body has a fault
abbrev pub Faultless : Table → Primitives → List Definition → Type 0
Faultless T P [] = ⊤
Faultless T P (d ∷ ds) = (strategy_faults T P (parameter_names d) d.body ≡ []) × Faultless T P ds

module _ (M T T' : Table) (keeps : Keeps M T T') where
  kept-head : (h : Head) (n : ℕ) → HeadCovered M h n → head_faults T h n ≡ [] → head_faults T' h n ≡ []
  kept-head (application f) n covered e = by f.is_quoted (is_declared T f n) refl e where
    by : (q b : Bool) → is_declared T f n ≡ b → fault_if (not q && not b) Undeclared f n 0
        ≡ [] → fault_if (not q && not (is_declared T' f n)) Undeclared f n 0 ≡ []
    by true b there e = refl
    by false true there e = ap (λ b. fault_if (not b) Undeclared f n 0) (keeps.constructors f n covered there)
    by false false there e = absurd (cc)
  kept-head list n covered e = refl
  kept-head tuple n covered e = refl

  module _ (building : Bool) where
    mutual
      kept-pattern : (p : Pattern) → PatternCovered M p
          → pattern_faults T building p ≡ [] → pattern_faults T' building p ≡ []
      kept-pattern wildcard covered e = e
      kept-pattern (variable x) covered e = refl
      kept-pattern (at x p) covered e =
          both_none (fault_if building Wild x 0 0) (pattern_faults T building p) (fault_if building Wild x 0 0)
          (pattern_faults T' building p)
          (λ e. e) (kept-pattern p covered) e
      kept-pattern (number z) covered e = refl
      kept-pattern (compound h ps) covered e =
          let n = length (pattern_list ps) in
          both_none (head_faults T h n) (faults_of_patterns T building ps) (head_faults T' h n)
          (faults_of_patterns T' building ps)
          (kept-head h n covered.0) (kept-patterns ps covered.1) e
      kept-pattern (with_tail ps p) covered e =
          both_none (faults_of_patterns T building ps) (pattern_faults T building p) (faults_of_patterns T' building ps)
          (pattern_faults T' building p)
          (kept-patterns ps covered.0) (kept-pattern p covered.1) e
      kept-pattern (annotated p ps) covered e =
          both_none (pattern_faults T building p) (faults_of_patterns T building ps) (pattern_faults T' building p)
          (faults_of_patterns T' building ps)
          (kept-pattern p covered.0) (kept-patterns ps covered.1) e

      kept-patterns : (ps : Patterns) → PatternsCovered M ps
          → faults_of_patterns T building ps ≡ [] → faults_of_patterns T' building ps ≡ []
      kept-patterns no_patterns covered e = refl
      kept-patterns (and_pattern p ps) covered e =
          both_none (pattern_faults T building p) (faults_of_patterns T building ps) (pattern_faults T' building p)
          (faults_of_patterns T' building ps)
          (kept-pattern p covered.0) (kept-patterns ps covered.1) e

  kept-name : (names : List Binder) (f : Symbol) (n m : ℕ) → NameCovered M (is_some (binder_number f names)) f n m
      → name_faults T names f n m ≡ [] → name_faults T' names f n m ≡ []
  kept-name names f n m = by (is_some (binder_number f names)) where
    told : Bool → List Fault
    told b = fault_if b Unknown f n m

    outside : (d z c : Bool) → is_defined T f n m ≡ d → is_declared T f n ≡ c → NameCovered M false f n m
        → told (not d && not (z && c)) ≡ [] → told (not (is_defined T' f n m) && not (z && is_declared T' f n)) ≡ []
    outside true z c defined declared covered e =
        ap (λ d. told (not d && not (z && is_declared T' f n))) (keeps.definitions f n m covered.0 defined)
    outside false true true defined declared covered e =
        ap (λ c. told (not (is_defined T' f n m) && not c)) (keeps.constructors f n covered.1 declared)
        ∙ none (is_defined T' f n m) where
          none : (d : Bool) → told (not d && false) ≡ []
          none true = refl
          none false = refl
    outside false true false defined declared covered e = absurd (cc)
    outside false false c defined declared covered e = absurd (cc)

    by : (b : Bool) → NameCovered M b f n m
        → (if b then fault_if (not (n + m == 0)) Parameter f n m else told
        (not (is_defined T f n m) && not ((m == 0) && is_declared T f n))) ≡ []
        → (if b then fault_if (not (n + m == 0)) Parameter f n m else told
        (not (is_defined T' f n m) && not ((m == 0) && is_declared T' f n))) ≡ []
    by true covered e = e
    by false covered e = outside (is_defined T f n m) (m == 0) (is_declared T f n) refl refl covered e

  module _ (P : Primitives) where
    mutual
      pub kept-strategy : (names : List Binder) (s : Strategy) → Covered M names s
          → strategy_faults T P names s ≡ [] → strategy_faults T' P names s ≡ []
      kept-strategy names id covered e = refl
      kept-strategy names fail covered e = refl
      kept-strategy names (matches p) covered e = kept-pattern false p covered e
      kept-strategy names (builds p) covered e = kept-pattern true p covered e
      kept-strategy names (seq r s) covered e =
          both_none (strategy_faults T P names r) (strategy_faults T P names s) (strategy_faults T' P names r)
          (strategy_faults T' P names s)
          (kept-strategy names r covered.0) (kept-strategy names s covered.1) e
      kept-strategy names (guard q r s) covered e =
          both_none (strategy_faults T P names q) (strategy_faults T P names r ++ strategy_faults T P names s)
          (strategy_faults T' P names q) (strategy_faults T' P names r ++ strategy_faults T' P names s)
          (kept-strategy names q covered.0)
          (both_none (strategy_faults T P names r) (strategy_faults T P names s) (strategy_faults T' P names r)
          (strategy_faults T' P names s)
          (kept-strategy names r covered.1.0) (kept-strategy names s covered.1.1)) e
      kept-strategy names (test s) covered e = kept-strategy names s covered e
      kept-strategy names (scope xs s) covered e =
          both_none (repeated_names xs) (strategy_faults T P names s) (repeated_names xs) (strategy_faults T' P names s)
          (λ e. e) (kept-strategy names s covered) e
      kept-strategy names (uses f ss ps) covered e =
          let n = length (strategy_list ss) in
          let m = length (pattern_list ps) in
          both_none (name_faults T names f n m) (faults_of_strategies T P names ss ++ faults_of_patterns T true ps)
          (name_faults T' names f n m) (faults_of_strategies T' P names ss ++ faults_of_patterns T' true ps)
          (kept-name names f n m covered.0)
          (both_none (faults_of_strategies T P names ss) (faults_of_patterns T true ps)
          (faults_of_strategies T' P names ss) (faults_of_patterns T' true ps)
          (kept-strategies names ss covered.1.0) (kept-patterns true ps covered.1.1)) e
      kept-strategy names (congruence h ss) covered e = kept-strategies names ss covered e
      kept-strategy names (tail_congruence ss s) covered e =
          both_none (faults_of_strategies T P names ss) (strategy_faults T P names s)
          (faults_of_strategies T' P names ss) (strategy_faults T' P names s)
          (kept-strategies names ss covered.0) (kept-strategy names s covered.1) e
      kept-strategy names (all s) covered e = kept-strategy names s covered e
      kept-strategy names (one s) covered e = kept-strategy names s covered e
      kept-strategy names (some s) covered e = kept-strategy names s covered e
      kept-strategy names (child i s) covered e = kept-strategy names s covered e
      kept-strategy names (rec f s) covered e =
          kept-strategy (record { name = f; number = length names } ∷ names) s covered e
      kept-strategy names (prim n ps) covered e =
          let unknown =
          fault_if (not (is_primitive P n (length (pattern_list ps)))) Primitive n (length (pattern_list ps)) 0 in
          both_none unknown (faults_of_patterns T true ps) unknown (faults_of_patterns T' true ps) (λ e. e)
          (kept-patterns true ps covered) e

      kept-strategies : (names : List Binder) (ss : Strategies) → AllCovered M names ss
          → faults_of_strategies T P names ss ≡ [] → faults_of_strategies T' P names ss ≡ []
      kept-strategies names no_strategies covered e = refl
      kept-strategies names (and_strategy s ss) covered e =
          both_none (strategy_faults T P names s) (faults_of_strategies T P names ss) (strategy_faults T' P names s)
          (faults_of_strategies T' P names ss)
          (kept-strategy names s covered.0) (kept-strategies names ss covered.1) e

    pub kept-bodies : (ds : List Definition) → BodiesCovered M ds → Faultless T P ds → Faultless T' P ds
    kept-bodies [] covered none = tt
    kept-bodies (d ∷ ds) covered none =
        (kept-strategy (parameter_names d) d.body covered.0 none.0, kept-bodies ds covered.1 none.1)
