-- The names of slots with content, in order.
use Rattle.std.proofs.Common.{◌≡◌, ℕ, Bool, true, false, cond, T, ◌&&◌, ◌||◌, List, [], ◌∷◌, ◌++◌, map, Some, None, is_some, IsPermutation, IsSorted, refl, sym, ap, subst, ◌∙◌, nat_eq}
use Rattle.std.specs.List.{AllByRecursion, IsDistinct, list_any, dedup, dedup_from}
use Rattle.std.specs.List.Sorted.{IsStrictlySortedBy}
use Rattle.std.specs.Ordering.{nat_cmp, eq_by_cmp, is_lt}
use Rattle.std.specs.declared.cmp.Ordering.{Ordering}
use Rattle.std.specs.declared.cmp.Ordering.TheVariants.{Less, Equal, Greater}
use Rattle.std.specs.Cmp.Lexicographic.{slice_cmp, pointwise, nat_list_cmp_total}
use Rattle.std.specs.FinMap.{find, is_sorted, entries, entries_sorted, from_sorted, entries-from_sorted, get-from_sorted, contains_key-keys, get-from_entries, same_map}
use Rattle.std.specs.FinMap.Entries.{below_all}
use Rattle.std.specs.FinMap as finmap
use Rattle.std.specs.Map.{keys_of}
use Rattle.std.proofs.lemmas.Cmp.{nat_list_eq_equiv}
use Rattle.std.proofs.lemmas.Map.Text.{is_eq-slice_cmp}
use Rattle.std.proofs.lemmas.Map.Lookups.{exact_bytes}
use Rattle.std.proofs.lemmas.Map.Keys.{IsDistinct-IsPermutation, IsDistinct-head, IsDistinct-tail}
use Rattle.std.proofs.lemmas.List.Sorted.{list_any-IsPermutation}
use Rattle.std.proofs.lemmas.List.Kept.{IsStrictlySortedBy-dedup}
use Rattle.std.proofs.lemmas.List.{append-nil}
use Rattle.term_changes.specs.Slots.{Slots, labels, HaveDistinctLabels, filled, named}

-- ---- a strictly rising list of keys is the list of a map

abbrev units : List (List ℕ) → List (List ℕ × Unit {0})
units ks = map (λ k. (k, tt)) ks

later : (a b : Bool) → T (a && b) → T b
later true b h = h
later false b h = absurd h

earlier : (a b : Bool) → T (a && b) → T a
earlier true b h = tt
earlier false b h = absurd h

both : (a b : Bool) → T a → T b → T (a && b)
both true b p q = q
both false b p q = absurd p

less_first : (r : Ordering) (b : Bool) → T (is_lt r && b) → r ≡ Less
less_first Less b h = refl
less_first Equal b h = absurd h
less_first Greater b h = absurd h

units_above : (k : List ℕ) (ks : List (List ℕ)) → AllByRecursion (λ y. slice_cmp nat_cmp k y ≡ Less) ks
    → T (below_all (slice_cmp nat_cmp) k (units ks))
units_above k [] a = tt
units_above k (j ∷ js) a = both (is_lt (slice_cmp nat_cmp k j)) (below_all (slice_cmp nat_cmp) k (units js))
    (subst (λ r. T (is_lt r)) (sym a.0) tt) (units_above k js a.1)

units_sorted : (ks : List (List ℕ)) → IsStrictlySortedBy (slice_cmp nat_cmp) ks
    → T (is_sorted (slice_cmp nat_cmp) (units ks))
unfolding IsStrictlySortedBy
units_sorted [] h = tt
units_sorted (k ∷ ks) h = both (below_all (slice_cmp nat_cmp) k (units ks)) (is_sorted (slice_cmp nat_cmp) (units ks))
    (units_above k ks h.0) (units_sorted ks h.1)

module _ {X : Type 0} where
  all_above : (k : List ℕ) (es : List (List ℕ × X)) → T (below_all (slice_cmp nat_cmp) k es)
      → AllByRecursion (λ y. slice_cmp nat_cmp k y ≡ Less) (keys_of es)
  all_above k [] h = tt
  all_above k (e ∷ es) h = (
    less_first (slice_cmp nat_cmp k e.0) (below_all (slice_cmp nat_cmp) k es) h,
    all_above k es (later (is_lt (slice_cmp nat_cmp k e.0)) (below_all (slice_cmp nat_cmp) k es) h),
  )

  pub keys_strict : (es : List (List ℕ × X)) → T (is_sorted (slice_cmp nat_cmp) es)
      → IsStrictlySortedBy (slice_cmp nat_cmp) (keys_of es)
  unfolding IsStrictlySortedBy
  keys_strict [] h = tt
  keys_strict (e ∷ es) h =
      let k = below_all (slice_cmp nat_cmp) e.0 es in (
        all_above e.0 es (earlier k (is_sorted (slice_cmp nat_cmp) es) h),
        keys_strict es (later k (is_sorted (slice_cmp nat_cmp) es) h),
      )

found_unit : (q : List ℕ) (ks : List (List ℕ))
    → find (slice_cmp nat_cmp) q (units ks) ≡ cond (list_any (eq_by_cmp (slice_cmp nat_cmp) q) ks) (Some tt) None
found_unit q [] = refl
found_unit q (k ∷ ks) =
    elim (eq_by_cmp (slice_cmp nat_cmp) q k) as (λ b. cond b (Some tt) (find (slice_cmp nat_cmp) q (units ks))
    ≡ cond (b || list_any (eq_by_cmp (slice_cmp nat_cmp) q) ks) (Some tt) None) [
      | true ↦ refl
      | false ↦ found_unit q ks
    ]

keys-units : (ks : List (List ℕ)) → keys_of (units ks) ≡ ks
keys-units [] = refl
keys-units (k ∷ ks) = ap (λ l. k ∷ l) (keys-units ks)

-- two lists with the same keys are equal
pub same_keys : (ks js : List (List ℕ)) → IsStrictlySortedBy (slice_cmp nat_cmp) ks
    → IsStrictlySortedBy (slice_cmp nat_cmp) js
    → ((q : List ℕ) → list_any (eq_by_cmp (slice_cmp nat_cmp) q) ks ≡ list_any (eq_by_cmp (slice_cmp nat_cmp) q) js)
    → ks ≡ js
same_keys ks js s t same =
    let R = slice_cmp nat_cmp in
    let h = units_sorted ks s in
    let g = units_sorted js t in
    let maps : from_sorted {R = R} (units ks) ≡ from_sorted (units js) =
    same_map nat_list_cmp_total exact_bytes _ _ (λ q.
    get-from_sorted R (units ks) q h ∙ found_unit q ks ∙ ap (λ b. cond b (Some tt) None) (same q)
    ∙ sym (get-from_sorted R (units js) q g ∙ found_unit q js)) in
    sym (keys-units ks) ∙ ap keys_of
    (sym (entries-from_sorted R (units ks) h) ∙ ap entries maps ∙ entries-from_sorted R (units js) g) ∙ keys-units js

-- ---- the result of a sort

dedup_from-distinct : (k : List ℕ) (ks : List (List ℕ))
    → IsDistinct (pointwise nat_eq) (k ∷ ks) → dedup_from (pointwise nat_eq) k ks ≡ k ∷ ks
dedup_from-distinct k [] h = refl
dedup_from-distinct k (j ∷ js) h =
    let other : pointwise nat_eq j k ≡ false = nat_list_eq_equiv.symm j k ∙ (IsDistinct-head _ _ _ h).0 in
    ap (λ b. cond b (dedup_from (pointwise nat_eq) k js) (k ∷ dedup_from (pointwise nat_eq) j js)) other
    ∙ ap (λ l. k ∷ l) (dedup_from-distinct j js (IsDistinct-tail _ _ _ h))

dedup-distinct : (ks : List (List ℕ)) → IsDistinct (pointwise nat_eq) ks → dedup (pointwise nat_eq) ks ≡ ks
dedup-distinct [] h = refl
dedup-distinct (k ∷ ks) h = dedup_from-distinct k ks h

ties : (x y : List ℕ) → pointwise nat_eq x y ≡ eq_by_cmp (slice_cmp nat_cmp) x y
ties x y = sym (is_eq-slice_cmp x y)

strict : (ks : List (List ℕ)) → IsDistinct (pointwise nat_eq) ks → IsSorted (slice_cmp nat_cmp) ks
    → IsStrictlySortedBy (slice_cmp nat_cmp) ks
strict ks d h = subst (IsStrictlySortedBy (slice_cmp nat_cmp)) (dedup-distinct ks d)
    (IsStrictlySortedBy-dedup nat_list_cmp_total ties ks h)

-- ---- the labels of slots with content

module _ {X : Type 0} where
  -- a label that differs from all labels differs from those with content
  apart_filled : (k : List ℕ) (ss : Slots X) → AllByRecursion (λ y. pointwise nat_eq k y ≡ false) (labels ss)
      → AllByRecursion (λ y. pointwise nat_eq k y ≡ false) (keys_of (filled ss))
  apart_filled k [] h = tt
  apart_filled k ((l, None) ∷ ss) h = apart_filled k ss h.1
  apart_filled k ((l, Some x) ∷ ss) h = (h.0, apart_filled k ss h.1)

  pub filled_distinct : (ss : Slots X) → HaveDistinctLabels ss → IsDistinct (pointwise nat_eq) (keys_of (filled ss))
  unfolding IsDistinct
  filled_distinct [] h = tt
  filled_distinct ((l, None) ∷ ss) h = filled_distinct ss h.1
  filled_distinct ((l, Some x) ∷ ss) h = (apart_filled l ss h.0, filled_distinct ss h.1)

  is_some-found : (q : List ℕ) (es : List (List ℕ × X)) → is_some (find (slice_cmp nat_cmp) q es)
      ≡ list_any (eq_by_cmp (slice_cmp nat_cmp) q) (keys_of es)
  is_some-found q [] = refl
  is_some-found q (e ∷ es) =
      elim (eq_by_cmp (slice_cmp nat_cmp) q e.0) as (λ b. is_some (cond b (Some e.1) (find (slice_cmp nat_cmp) q es))
      ≡ (b || list_any (eq_by_cmp (slice_cmp nat_cmp) q) (keys_of es))) [
        | true ↦ refl
        | false ↦ is_some-found q es
      ]

  -- sorted, they are the keys of the map
  pub sorted_names : (ss : Slots X) (names sorted : List (List ℕ)) → HaveDistinctLabels ss → names ≡ keys_of (filled ss)
      → IsPermutation names sorted → IsSorted (slice_cmp nat_cmp) sorted
      → sorted ≡ finmap.keys (named ss)
  sorted_names ss names sorted a e p s =
      let R = slice_cmp nat_cmp in
      let distinct : IsDistinct (pointwise nat_eq) names =
      subst (IsDistinct (pointwise nat_eq)) (sym e) (filled_distinct ss a) in
      same_keys sorted (finmap.keys (named ss))
      (strict sorted (IsDistinct-IsPermutation (pointwise nat_eq) nat_list_eq_equiv.symm names sorted p distinct) s)
      (keys_strict (entries (named ss)) (entries_sorted (named ss)))
      (λ q.
      sym (list_any-IsPermutation (eq_by_cmp R q) names sorted p) ∙ ap (list_any (eq_by_cmp R q)) e
      ∙ sym (is_some-found q (filled ss)) ∙ ap is_some (sym (get-from_entries nat_list_cmp_total (filled ss) q))
      ∙ contains_key-keys (named ss) q)

  -- after all slots were visited
  pub all_taken : (es ss rest : Slots X) (names : List (List ℕ))
      → es ≡ ss → names ++ keys_of (filled rest) ≡ keys_of (filled ss) → rest ≡ [] → names ≡ keys_of (filled ss)
  all_taken es ss rest names v h e = sym (append-nil names) ∙ ap (λ r. names ++ keys_of (filled r)) (sym e) ∙ h
