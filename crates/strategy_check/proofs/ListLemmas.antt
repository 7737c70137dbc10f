-- Lists without duplicates.
use Rattle.strategy_names.proofs.BinderLemmas.{bound_count}
use Rattle.std.proofs.Common.{◌≡◌, ℕ, suc, ◌+◌, ◌<◌, ◌≤◌, Bool, true, false, List, [], ◌∷◌, ◌++◌, length, get_or, drop, drop-cons, add-one, refl, sym, ap, ◌∙◌, append_assoc, append-nil}
use Rattle.std.proofs.lemmas.List.{drop_all}
use Rattle.std.specs.Prelude.{if◌then◌else◌}
use Rattle.indexmap.specs.IndexSet.{insert_key}
use Rattle.strategy_syntax.specs.Lists.{is_among, first_ones, with_new}

module _ {X : Type 0} (same : X → X → Bool) where
  -- the first is added as to a set
  pub with_new-next : (seen : List X) (x : X) (xs : List X)
      → with_new same seen (x ∷ xs) ≡ with_new same (insert_key same seen x) xs
  with_new-next seen x xs = by (is_among same x seen) where
    by : (b : Bool) → seen ++ (if b then first_ones same seen xs else x ∷ first_ones same (seen ++ x ∷ []) xs)
        ≡ with_new same (if b then seen else seen ++ x ∷ []) xs
    by true = refl
    by false = sym (append_assoc seen (x ∷ []) (first_ones same (seen ++ x ∷ []) xs))

  pub with_new-append : (seen xs ys : List X) → with_new same seen (xs ++ ys) ≡ with_new same (with_new same seen xs) ys
  with_new-append seen [] ys = ap (λ l. with_new same l ys) (sym (append-nil seen))
  with_new-append seen (x ∷ xs) ys =
      with_new-next seen x (xs ++ ys) ∙ with_new-append (insert_key same seen x) xs ys
      ∙ ap (λ l. with_new same l ys) (sym (with_new-next seen x xs))

  pub with_new-none : (seen : List X) → with_new same seen [] ≡ seen
  with_new-none seen = append-nil seen

-- ---- a loop over a list, where F takes the result so far and the rest

module _ {S X Y : Type 0} (F : S → List X → Y) (one : S → X → S)
    (cons : (s : S) (x : X) (xs : List X) → F s (x ∷ xs) ≡ F (one s x) xs) (xs : List X) (i : ℕ) where
  pub turn : (s : S) (x : X) (whole : Y) → i < length xs → x ≡ get_or xs i x
      → F s (drop i xs) ≡ whole → F (one s x) (drop (i + 1) xs) ≡ whole
  turn s x whole lt at same =
      rw add-one (sym (cons s x (drop (suc i) xs)) ∙ ap (λ y. F s (y ∷ drop (suc i) xs)) at
      ∙ ap (F s) (sym (drop-cons xs i x lt)) ∙ same)

  pub end : (s : S) (whole : Y) → length xs ≤ i → F s (drop i xs) ≡ whole → F s [] ≡ whole
  end s whole ended same = sym (ap (F s) (drop_all i xs ended)) ∙ same

pub ruleset binder_rules = (bound_count)
