-- What holds of each element of a list.
use Rattle.std.proofs.Common.{◌≡◌, ℕ, zero, suc, List, [], ◌∷◌, ◌++◌, take, set, slice_get, Some, subst}
use Rattle.std.specs.List.{AllByRecursion}

module _ {X : Type 0} (P : X → Type 0) where
  pub all_and : (xs : List X) (x : X) → AllByRecursion P xs → P x → AllByRecursion P (xs ++ x ∷ [])
  all_and [] x h p = (p, tt)
  all_and (y ∷ xs) x h p = (h.0, all_and xs x h.1 p)

  pub all_take : (n : ℕ) (xs : List X) → AllByRecursion P xs → AllByRecursion P (take n xs)
  all_take zero xs h = tt
  all_take (suc n) [] h = tt
  all_take (suc n) (x ∷ xs) h = (h.0, all_take n xs h.1)

  pub all_set : (xs : List X) (i : ℕ) (x : X) → AllByRecursion P xs → P x → AllByRecursion P (set xs i x)
  all_set [] i x h p = tt
  all_set (y ∷ xs) zero x h p = (p, h.1)
  all_set (y ∷ xs) (suc i) x h p = (h.0, all_set xs i x h.1 p)

  pub all_at : (xs : List X) (i : ℕ) (x : X) → slice_get xs i ≡ Some x → AllByRecursion P xs → P x
  all_at [] i x e h = absurd (cc)
  all_at (y ∷ xs) zero x e h = let same : y ≡ x = cc in subst P same h.0
  all_at (y ∷ xs) (suc i) x e h = all_at xs i x e h.1
