-- What is in a list, as it grows.
use Rattle.std.proofs.Common.{◌≡◌, ◌↔◌, ◌⊎◌, inl, inr, ℕ, zero, suc, refl, ap, ◌+◌, ◌<◌, List, [], ◌∷◌, ◌++◌, length, get_or, take, sym, ◌∙◌, subst, arith, Some}
use Rattle.std.specs.List.{Contains, slice_get}
use Rattle.std.proofs.lemmas.List.{take_more}
use Rattle.std.proofs.lemmas.List.Elements.{Contains-push, Contains-append_left, Contains-push_cases}
use Rattle.std.proofs.lemmas.Option.{slice_get_read, slice_get_within, get_or_from_slice_get, slice_get-get_or}

-- the numbers are the old ones and the others
abbrev pub AreBoth : List ℕ → List ℕ → List ℕ → Type 0
AreBoth numbers old others = (n : ℕ) → Contains numbers n ↔ (Contains old n ⊎ Contains others n)

pub empty_has_none : {X : Type 0} (x : X) → Contains [] x → ⊥
empty_has_none x h = omega (arith, h.1)

place_at : {X : Type 0} (xs : List X) (x : X) (h : Contains xs x) → slice_get xs h.0 ≡ Some x
place_at xs x h = slice_get_read xs (length xs) h.0 x (λ i. length xs) h.1 (sym h.2)

pub place_of : {X : Type 0} (xs : List X) (x : X) → Contains xs x → (k : ℕ) × (slice_get xs k ≡ Some x)
place_of xs x h = (h.0, place_at xs x h)

pub has_place : {X : Type 0} (xs : List X) (k : ℕ) (x : X) → slice_get xs k ≡ Some x → Contains xs x
has_place xs k x e = (k, slice_get_within xs k x e, get_or_from_slice_get xs k x x e)

-- the number at the place
pub value_at : (xs : List ℕ) (x : ℕ) → Contains xs x → (k : ℕ) × (k < length xs) × (get_or xs k 0 ≡ x)
value_at xs x h = (h.0, h.1, get_or_from_slice_get xs h.0 x 0 (place_at xs x h))

pub has_value : (xs : List ℕ) (k x : ℕ) → k < length xs → get_or xs k 0 ≡ x → Contains xs x
has_value xs k x below e = has_place xs k x (slice_get-get_or xs k 0 below ∙ ap Some e)

-- ---- one more of the others

module _ (old others : List ℕ) (i : ℕ) (below : i < length others) where
  in_front : (n : ℕ) → Contains (take i others) n → Contains (take (i + 1) others) n
  in_front n h =
      subst (λ (l : List ℕ). Contains l n) (sym (take_more others i 0 below))
      (Contains-append_left (take i others) (get_or others i 0 ∷ []) n h)

  at_end : Contains (take (i + 1) others) (get_or others i 0)
  at_end =
      subst (λ (l : List ℕ). Contains l (get_or others i 0)) (sym (take_more others i 0 below))
      (Contains-push (take i others) (get_or others i 0))

  front_or_end : (n : ℕ) → Contains (take (i + 1) others) n → Contains (take i others) n ⊎ (get_or others i 0 ≡ n)
  front_or_end n h =
      Contains-push_cases (take i others) (get_or others i 0) n
      (subst (λ (l : List ℕ). Contains l n) (take_more others i 0 below) h)

  pub was_there : (numbers : List ℕ) → Contains numbers (get_or others i 0) → AreBoth numbers old (take i others)
      → AreBoth numbers old (take (i + 1) others)
  was_there numbers there both n = (
    λ h. elim ((both n).0 h) as (λ _. Contains old n
        ⊎ Contains (take (i + 1) others) n) [ inl a ↦ inl a | inr b ↦ inr (in_front n b) ],
    λ h. elim h as (λ _. Contains numbers n) [
      | inl a ↦ (both n).1 (inl a)
      | inr b ↦ elim (front_or_end n b) as (λ _. Contains numbers n) [
        | inl c ↦ (both n).1 (inr c)
        | inr e ↦ subst (λ (m : ℕ). Contains numbers m) e there
      ]
    ],
  )

  pub was_added : (numbers : List ℕ) → AreBoth numbers old (take i others)
      → AreBoth (numbers ++ get_or others i 0 ∷ []) old (take (i + 1) others)
  was_added numbers both n = (
    λ h. elim (Contains-push_cases numbers (get_or others i 0) n h) as (λ _. Contains old n
        ⊎ Contains (take (i + 1) others) n) [
          | inl a ↦ elim ((both n).0 a) as (λ _. Contains old n
              ⊎ Contains (take (i + 1) others) n) [ inl b ↦ inl b | inr b ↦ inr (in_front n b) ]
          | inr e ↦ inr (subst (λ (m : ℕ). Contains (take (i + 1) others) m) e at_end)
        ],
    λ h. elim h as (λ _. Contains (numbers ++ get_or others i 0 ∷ []) n) [
      | inl a ↦ Contains-append_left numbers (get_or others i 0 ∷ []) n ((both n).1 (inl a))
      | inr b ↦ elim (front_or_end n b) as (λ _. Contains (numbers ++ get_or others i 0 ∷ []) n) [
        | inl c ↦ Contains-append_left numbers (get_or others i 0 ∷ []) n ((both n).1 (inr c))
        | inr e ↦ subst (λ (m : ℕ). Contains (numbers ++ get_or others i 0 ∷ []) m) e
            (Contains-push numbers (get_or others i 0))
      ]
    ],
  )

-- ---- places in a list with one more at its end

module _ {X : Type 0} where
  pub place_kept : (xs : List X) (x y : X) (k : ℕ) → slice_get xs k ≡ Some y → slice_get (xs ++ x ∷ []) k ≡ Some y
  place_kept [] x y k e = absurd (cc)
  place_kept (z ∷ xs) x y zero e = e
  place_kept (z ∷ xs) x y (suc k) e = place_kept xs x y k e

  pub last_place : (xs : List X) (x : X) → slice_get (xs ++ x ∷ []) (length xs) ≡ Some x
  last_place [] x = refl
  last_place (z ∷ xs) x = last_place xs x

  pub place_cases : (xs : List X) (x y : X) (k : ℕ) → slice_get (xs ++ x ∷ []) k ≡ Some y
      → (slice_get xs k ≡ Some y) ⊎ ((k ≡ length xs) × (y ≡ x))
  place_cases [] x y zero e = inr (refl, (cc))
  place_cases [] x y (suc k) e = absurd (cc)
  place_cases (z ∷ xs) x y zero e = inl e
  place_cases (z ∷ xs) x y (suc k) e =
      elim (place_cases xs x y k e) as (λ _. (slice_get xs k ≡ Some y) ⊎ ((suc k ≡ suc (length xs)) × (y ≡ x))) [
        | inl a ↦ inl a
        | inr b ↦ inr (ap suc b.0, b.1)
      ]
