-- Definitions in groups by number.
use Rattle.std.proofs.Common.{◌≡◌, ℕ, zero, suc, ◌+◌, ◌≤◌, ◌==◌, Bool, true, false, List, [], ◌∷◌, ◌++◌, length, filter, replicate, slice_get, slice_set, Option, Some, None, refl, sym, ap, ◌∙◌, arith, append-nil, append_assoc, rules}
use Rattle.std.proofs.lemmas.Bool.Decides.{nat_tests}
use Rattle.std.specs.Prelude.{if◌then◌else◌}
use Rattle.strategy_syntax.specs.Modules.{Definition}
use Rattle.strategy_syntax.specs.Resolved.{ResolvedStrategy, id, guard}
use Rattle.strategy_check.specs.Tables.{DefinitionKey, Table, definition_number}
use Rattle.strategy_check.specs.Programs.{is_number, of_number, groups_from, groups, joined}
use Rattle.strategy_check.specs.inside.Grouping.{with_member, with_numbered, with_definition, with_definitions}

abbrev number : Table → Definition → Option ℕ
number T d = definition_number T d.name (length d.strategy_parameters) (length d.term_parameters)

filter-append : (p : Definition → Bool) (ds es : List Definition) → filter p (ds ++ es) ≡ filter p ds ++ filter p es
filter-append p [] es = refl
filter-append p (d ∷ ds) es = by (p d) (filter-append p ds es) where
  by : (b : Bool) → filter p (ds ++ es) ≡ filter p ds ++ filter p es
      → (if b then d ∷ filter p (ds ++ es) else filter p (ds ++ es)) ≡ (if b then d ∷ filter p ds else filter p ds)
      ++ filter p es
  by true rest = ap (λ l. d ∷ l) rest
  by false rest = rest

module _ (T : Table) (ds : List Definition) (d : Definition) where
  of_number-last : (i : ℕ) (b : Bool)
      → is_number i (number T d) ≡ b → of_number T (ds ++ d ∷ []) i ≡ of_number T ds i ++ (if b then d ∷ [] else [])
  of_number-last i b e =
      filter-append (λ d. is_number i (number T d)) ds (d ∷ [])
      ∙ ap (λ b. of_number T ds i ++ (if b then d ∷ [] else [])) e

  -- a group of another number stays the same
  other : (i : ℕ) → is_number i (number T d) ≡ false → of_number T (ds ++ d ∷ []) i ≡ of_number T ds i
  other i e = of_number-last i false e ∙ append-nil (of_number T ds i)

  others : (i : ℕ) (ks : List DefinitionKey)
      → ((j : ℕ) → is_number (i + j) (number T d) ≡ false) → groups_from T (ds ++ d ∷ []) i ks ≡ groups_from T ds i ks
  others i [] none = refl
  others i (k ∷ ks) none = λ l. other i (ap (λ n. is_number n (number T d)) (omega arith) ∙ none 0) l
      ∷ others (i + 1) ks (λ j. ap (λ n. is_number n (number T d)) (omega arith) ∙ none (1 + j)) l

  same-number : (n : ℕ) → (n == n) ≡ true
  same-number n = search rules

  more-number : (i j : ℕ) → (i == i + suc j) ≡ false
  more-number i j = grind (arith, nat_tests)

  added : (i j : ℕ) (ks : List DefinitionKey)
      → number T d ≡ Some (i + j) → groups_from T (ds ++ d ∷ []) i ks ≡ with_member j d (groups_from T ds i ks)
  added i j [] e = refl
  added i zero (k ∷ ks) e = λ l.
      (of_number-last i true (ap (is_number i) e ∙ ap (λ n. i == n) (omega arith) ∙ same-number i)) l
      ∷ others (i + 1) ks (λ m. ap (is_number ((i + 1) + m)) e ∙ less i m) l
    where
      less : (i m : ℕ) → ((i + 1) + m == i + 0) ≡ false
      less i m = grind (arith, nat_tests)
  added i (suc j) (k ∷ ks) e = λ l.
      other i (ap (is_number i) e ∙ more-number i j) l
      ∷ added (i + 1) j ks (e ∙ ap Some (omega arith)) l

  pub groups-last : groups T (ds ++ d ∷ []) ≡ with_definition T (groups T ds) d
  groups-last = by (number T d) refl where
    by : (o : Option ℕ) → number T d ≡ o → groups T (ds ++ d ∷ []) ≡ with_numbered o d (groups T ds)
    by None e = others 0 T.definitions (λ j. ap (is_number (0 + j)) e)
    by (Some j) e = added 0 j T.definitions (e ∙ ap Some (omega arith))

module _ (T : Table) where
  pub groups-append : (ds es : List Definition) → groups T (ds ++ es) ≡ with_definitions T (groups T ds) es
  groups-append ds [] = ap (groups T) (append-nil ds)
  groups-append ds (e ∷ es) =
      ap (groups T) (sym (append_assoc ds (e ∷ []) es)) ∙ groups-append (ds ++ e ∷ []) es
      ∙ ap (λ gs. with_definitions T gs es) (groups-last T ds e)

  pub with_definitions-append : (gs : List (List Definition)) (ds es : List Definition)
      → with_definitions T gs (ds ++ es) ≡ with_definitions T (with_definitions T gs ds) es
  with_definitions-append gs [] es = refl
  with_definitions-append gs (d ∷ ds) es = with_definitions-append (with_definition T gs d) ds es

  empty_from : (i : ℕ) (ks : List DefinitionKey) → groups_from T [] i ks ≡ replicate (length ks) []
  empty_from i [] = refl
  empty_from i (k ∷ ks) = ap (λ gs. [] ∷ gs) (empty_from (i + 1) ks)

  -- all definitions, added to empty groups one by one
  pub all_grouped : (ds : List Definition) → with_definitions T (replicate (length T.definitions) []) ds ≡ groups T ds
  all_grouped ds = ap (λ gs. with_definitions T gs ds) (sym (empty_from 0 T.definitions)) ∙ sym (groups-append [] ds)

-- the last two bodies as one
pub joined-last : (rs : List ResolvedStrategy) (r q : ResolvedStrategy)
    → joined (rs ++ guard r id q ∷ []) ≡ joined (rs ++ (r ∷ (q ∷ [])))
joined-last [] r q = refl
joined-last (a ∷ []) r q = refl
joined-last (a ∷ (b ∷ rs)) r q = ap (guard a id) (joined-last (b ∷ rs) r q)

-- ---- a group that is borrowed

pub set_member : (i : ℕ) (d : Definition) (gs : List (List Definition)) (g : List Definition) → slice_get gs i ≡ Some g
    → slice_set gs i (g ++ d ∷ []) ≡ with_member i d gs
set_member i d [] g e = absurd (cc)
set_member zero d (h ∷ gs) g e = let same : h ≡ g = cc in ap (λ l. (l ++ d ∷ []) ∷ gs) (sym same)
set_member (suc i) d (h ∷ gs) g e = ap (λ l. h ∷ l) (set_member i d gs g e)

pub no_member : (i : ℕ) (d : Definition) (gs : List (List Definition)) → length gs ≤ i → gs ≡ with_member i d gs
no_member i d [] le = refl
no_member zero d (h ∷ gs) le = absurd (omega arith)
no_member (suc i) d (h ∷ gs) le = ap (λ l. h ∷ l) (no_member i d gs (omega arith))
