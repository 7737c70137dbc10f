-- Chains of injections.
use Rattle.std.proofs.Common.{◌≡◌, ◌⊎◌, inl, inr, List, [], ◌∷◌, ◌++◌, refl, sym, ap, subst, arith}
use Rattle.std.specs.List.{Contains}
use Rattle.std.proofs.lemmas.List.Elements.{Contains-push, Contains-append_left, Contains-push_cases}
use Rattle.term_sorts.specs.Sorts.{Sort, Injection, Lead, Takes}

pub takes_itself : (is : List Injection) (s : Sort) → Takes is s s
takes_itself is s = ([], refl)

pub takes_injected : (is : List Injection) (r s : Sort) → Contains is (record { from = r; to = s }) → Takes is s r
takes_injected is r s h = (s ∷ [], (h, refl))

lead_on : (is : List Injection) (r q s : Sort) (a b : List Sort) → Lead is r a q → Lead is q b s → Lead is r (a ++ b) s
lead_on is r q s [] b e l = subst (λ (x : Sort). Lead is x b s) (sym e) l
lead_on is r q s (x ∷ a) b l m = (l.0, lead_on is x q s a b l.1 m)

-- what takes a sort takes what that takes
pub takes_on : (is : List Injection) (s q r : Sort) → Takes is s q → Takes is q r → Takes is s r
takes_on is s q r t u = (u.0 ++ t.0, lead_on is r q s u.0 t.0 u.1 t.1)

module _ (is js : List Injection) (more : (i : Injection) → Contains is i → Contains js i) where
  lead_more : (r s : Sort) (way : List Sort) → Lead is r way s → Lead js r way s
  lead_more r s [] e = e
  lead_more r s (q ∷ way) l = (more (record { from = r; to = q }) l.0, lead_more q s way l.1)

  pub takes_more : (s r : Sort) → Takes is s r → Takes js s r
  takes_more s r t = (t.0, lead_more r s t.0 t.1)

nothing_leads : (s r : Sort) (way : List Sort) → Lead [] r way s → r ≡ s
nothing_leads s r [] e = e
nothing_leads s r (q ∷ way) l = absurd (omega (arith, l.0.1))

pub nothing_taken : (s r : Sort) → Takes [] s r → r ≡ s
nothing_taken s r t = nothing_leads s r t.0 t.1

-- ---- the ends of a chain

first_of : (is : List Injection) (s r : Sort) (way : List Sort) → Lead is r way s
    → (r ≡ s) ⊎ ((i : Injection) × Contains is i × (i.from ≡ r))
first_of is s r [] e = inl e
first_of is s r (q ∷ way) l = inr (record { from = r; to = q }, l.0, refl)

pub first_injected : (is : List Injection) (s r : Sort) → Takes is s r
    → (r ≡ s) ⊎ ((i : Injection) × Contains is i × (i.from ≡ r))
first_injected is s r t = first_of is s r t.0 t.1

last_of : (is : List Injection) (s r : Sort) (way : List Sort) → Lead is r way s
    → (r ≡ s) ⊎ ((i : Injection) × Contains is i × (i.to ≡ s))
last_of is s r [] e = inl e
last_of is s r (q ∷ way) l =
    elim (last_of is s q way l.1) as (λ _. (r ≡ s) ⊎ ((i : Injection) × Contains is i × (i.to ≡ s))) [
      | inl e ↦ inr (record { from = r; to = q }, l.0, e)
      | inr i ↦ inr i
    ]

pub last_injected : (is : List Injection) (s r : Sort) → Takes is s r
    → (r ≡ s) ⊎ ((i : Injection) × Contains is i × (i.to ≡ s))
last_injected is s r t = last_of is s r t.0 t.1

-- ---- one more injection, of a into b

module _ (is : List Injection) (a b : Sort) where
  abbrev pub with_one : List Injection
  with_one = is ++ record { from = a; to = b } ∷ []

  more_with_one : (i : Injection) → Contains is i → Contains with_one i
  more_with_one i h = Contains-append_left is (record { from = a; to = b } ∷ []) i h

  pub takes_as_before : (s r : Sort) → Takes is s r → Takes with_one s r
  takes_as_before s r t = takes_more is with_one more_with_one s r t

  pub takes_by_new : (s r : Sort) → Takes is s b → Takes is a r → Takes with_one s r
  takes_by_new s r t u =
      takes_on with_one s b r (takes_as_before s b t)
      (takes_on with_one b a r (takes_injected with_one a b (Contains-push is (record { from = a; to = b })))
      (takes_as_before a r u))

  abbrev Before : Sort → Sort → Type 0
  Before s r = Takes is s r ⊎ (Takes is s b × Takes is a r)

  lead_before : (s r : Sort) (way : List Sort) → Lead with_one r way s → Before s r
  lead_before s r [] e = inl ([], e)
  lead_before s r (q ∷ way) l =
      elim (Contains-push_cases is (record { from = a; to = b }) (record { from = r; to = q }) l.0) as (λ _.
      Before s r) [
        | inl old ↦ elim (lead_before s q way l.1) as (λ _. Before s r) [
          | inl t ↦ inl (q ∷ t.0, (old, t.1))
          | inr t ↦ inr (t.0, (q ∷ t.1.0, (old, t.1.1)))
        ]
        | inr e ↦ elim (lead_before s q way l.1) as (λ _. Before s r) [
          | inl t ↦ inr (
            subst (λ (x : Sort). Takes is s x) (sym (ap (λ (i : Injection). i.to) e)) t,
            ([], sym (ap (λ (i : Injection). i.from) e)),
          )
          | inr t ↦ inr (t.0, ([], sym (ap (λ (i : Injection). i.from) e)))
        ]
      ]

  pub takes_before : (s r : Sort) → Takes with_one s r → Before s r
  takes_before s r t = lead_before s r t.0 t.1
