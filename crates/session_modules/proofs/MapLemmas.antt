-- Maps from bytes: each entry is found by its key.
use Rattle.std.proofs.Common.{◌≡◌, ℕ, Bool, true, false, cond, T, ◌&&◌, List, [], ◌∷◌, map, Some, None, IsSome, refl, sym, ap, ◌∙◌, subst, arith}
use Rattle.std.specs.declared.option.Option.{Option}
use Rattle.std.specs.List.{AllByRecursion}
use Rattle.std.specs.Ordering.{nat_cmp, is_lt, is_eq, ordering_reverse}
use Rattle.std.specs.declared.cmp.Ordering.{Ordering}
use Rattle.std.specs.declared.cmp.Ordering.TheVariants.{Equal}
use Rattle.std.specs.Cmp.{tied_itself}
use Rattle.std.specs.Cmp.Lexicographic.{slice_cmp, nat_list_cmp_total}
use Rattle.std.specs.FinMap as finmap
use Rattle.std.specs.FinMap.{find, is_sorted, entries, entries_sorted, get-entries}
use Rattle.std.specs.FinMap.Entries.{below_all}
use Rattle.std.proofs.lemmas.Map.Lookups.{exact_bytes}
use Rattle.term_changes.specs.Contents.{Named}

abbrev pub R : List ℕ → List ℕ → Ordering
R = slice_cmp nat_cmp

pub later : (a b : Bool) → T (a && b) → T b
later a b h = grind arith

pub earlier : (a b : Bool) → T (a && b) → T a
earlier a b h = grind arith

pub lower : (r : Ordering) → T (is_lt r) → is_eq r ≡ false
lower r h = grind arith

pub higher : (r : Ordering) → T (is_lt r) → is_eq (ordering_reverse r) ≡ false
higher r h = grind arith

pub tied : (r : Ordering) → is_eq r ≡ true → r ≡ Equal
tied r h = grind arith

pub same_key : (q k : List ℕ) → is_eq (R q k) ≡ true → q ≡ k
same_key q k e = exact_bytes q k (tied (R q k) e)

module _ {X : Type 0} where
  -- a key below all keys of a list isn't found there
  pub find_below : (q : List ℕ) (es : List (List ℕ × X)) → T (below_all R q es) → find R q es ≡ None
  find_below q [] h = refl
  find_below q (e ∷ es) h =
      ap (λ (b : Bool). cond b (Some e.1) (find R q es)) (lower (R q e.0) (earlier _ (below_all R q es) h))
      ∙ find_below q es (later (is_lt (R q e.0)) _ h)

  found_after : (e : List ℕ × X) (all ds : List (List ℕ × X)) → T (below_all R e.0 ds)
      → AllByRecursion (λ d. find R d.0 all ≡ Some d.1) ds → AllByRecursion (λ d. find R d.0 (e ∷ all) ≡ Some d.1) ds
  found_after e all [] h f = tt
  found_after e all (d ∷ ds) h f = (
    ap (λ (b : Bool). cond b (Some e.1) (find R d.0 all))
        (ap is_eq (nat_list_cmp_total.antisymm d.0 e.0) ∙ higher (R e.0 d.0) (earlier _ (below_all R e.0 ds) h)) ∙ f.0,
    found_after e all ds (later (is_lt (R e.0 d.0)) _ h) f.1,
  )

  -- each entry is found by its key
  pub found : (es : List (List ℕ × X)) → T (is_sorted R es) → AllByRecursion (λ e. find R e.0 es ≡ Some e.1) es
  found [] h = tt
  found (e ∷ es) h = (
    ap (λ (r : Ordering). cond (is_eq r) (Some e.1) (find R e.0 es)) (tied_itself nat_list_cmp_total e.0),
    found_after e es es (earlier _ (is_sorted R es) h) (found es (later (below_all R e.0 es) _ h)),
  )

  there : (m : Named X) (es : List (List ℕ × X)) → AllByRecursion (λ e. find R e.0 (entries m) ≡ Some e.1) es
      → AllByRecursion (λ e. finmap.get m e.0 ≡ Some e.1) es
  there m [] h = tt
  there m (e ∷ es) h = (get-entries m e.0 ∙ h.0, there m es h.1)

  pub all_there : (m : Named X) → AllByRecursion (λ e. finmap.get m e.0 ≡ Some e.1) (entries m)
  all_there m = there m (entries m) (found (entries m) (entries_sorted m))

  some : (m : Named X) (es : List (List ℕ × X)) → AllByRecursion (λ e. finmap.get m e.0 ≡ Some e.1) es
      → AllByRecursion (λ name. IsSome (finmap.get m name)) (map (λ e. e.0) es)
  some m [] h = tt
  some m (e ∷ es) h = (subst (λ (o : Option X). IsSome o) (sym h.0) refl, some m es h.1)

  -- each key of a map has a value
  pub keys_there : (m : Named X) → AllByRecursion (λ name. IsSome (finmap.get m name)) (finmap.keys m)
  keys_there m = some m (entries m) (all_there m)

  -- a map without a value for any key has no keys
  pub no_keys : (m : Named X) → ((q : List ℕ) → finmap.get m q ≡ None) → finmap.keys m ≡ []
  no_keys m none = ap (map (λ e. e.0)) (by (entries m) (all_there m))
    where
      by : (es : List (List ℕ × X)) → AllByRecursion (λ e. finmap.get m e.0 ≡ Some e.1) es → es ≡ []
      by [] h = refl
      by (e ∷ es) h = let there : Some e.1 ≡ None = sym h.0 ∙ none e.0 in absurd (cc)
