-- The places of a change, and paths within them.
use Rattle.std.proofs.Common.{◌≡◌, ◌<◌, ℕ, ◌+◌, List, [], ◌∷◌, ◌++◌, ◌⊎◌, inl, inr, refl, sym, ap, subst, ◌∙◌, zero, suc, arith, append_assoc}
use Rattle.term_core.specs.Tree.{Tree}
use Rattle.term_paths.specs.Paths.{LiesWithin}
use Rattle.term_paths.specs.Edits.{Edits, prefixed}
use Rattle.term_changes.specs.Change.{Change, same, inside, replaced, Changes, no_more, and_then, below, places, places_from}
use Rattle.term_changes.specs.EditChanges.{nth_change}
use Rattle.term_changes.specs.Standing.{Standing, unchanged, standing_change}
use Rattle.strategy_meaning.specs.Outermost.{IsOf, IsBefore, IsBeforeAll, AreInOrder, AreOutermost}
use Rattle.strategy_machine.specs.Leading.{IsPlace, IsWithin, Leads}

-- ---- paths of edits

pub of_left : (x : List ℕ) (e d : Edits) → IsOf x e → IsOf x (e ++ d)
of_left x [] d h = absurd h
of_left x (y ∷ e) d (inl h) = inl h
of_left x (y ∷ e) d (inr h) = inr (of_left x e d h)

pub of_right : (x : List ℕ) (e d : Edits) → IsOf x d → IsOf x (e ++ d)
of_right x [] d h = h
of_right x (y ∷ e) d h = inr (of_right x e d h)

pub of_either : (x : List ℕ) (e d : Edits) → IsOf x (e ++ d) → IsOf x e ⊎ IsOf x d
of_either x [] d h = inr h
of_either x (y ∷ e) d (inl h) = inl (inl h)
of_either x (y ∷ e) d (inr h) = elim (of_either x e d h) [
  | inl left ↦ inl (inr left)
  | inr right ↦ inr right
]

pub of_prefixed : (p x : List ℕ) (e : Edits) → IsOf x e → IsOf (p ++ x) (prefixed p e)
of_prefixed p x [] h = absurd h
of_prefixed p x (y ∷ e) (inl h) = inl (ap (λ l. p ++ l) h)
of_prefixed p x (y ∷ e) (inr h) = inr (of_prefixed p x e h)

pub prefixed_of : (p x : List ℕ) (e : Edits) → IsOf x (prefixed p e) → (y : List ℕ) × (x ≡ p ++ y) × IsOf y e
prefixed_of p x [] h = absurd h
prefixed_of p x (y ∷ e) (inl h) = (y.path, sym h, inl refl)
prefixed_of p x (y ∷ e) (inr h) = let r = prefixed_of p x e h in (r.0, r.1, inr r.2)

-- ---- from a place to its path and back

mutual
  pub place_is : (c : Change) (x : List ℕ) → IsOf x (places c) → IsPlace c x
  place_is same x h = absurd h
  place_is (inside cs) x h =
      let r = place_from cs 0 x h in
      let first : 0 + r.0 ≡ r.0 = omega arith in
      subst (IsPlace (inside cs)) (sym (r.2 ∙ ap (λ k. k ∷ r.1) first)) r.3
  place_is (replaced u) x (inl h) = subst (IsPlace (replaced u)) h tt
  place_is (replaced u) x (inr h) = absurd h

  place_from : (cs : Changes) (k : ℕ) (x : List ℕ) → IsOf x (places_from k cs)
      → (j : ℕ) × (y : List ℕ) × (x ≡ (k + j) ∷ y) × IsPlace (nth_change cs j) y
  place_from no_more k x h = absurd h
  place_from (and_then c cs) k x h = elim (of_either x (below k (places c)) (places_from (k + 1) cs) h) [
    | inl here ↦
        let r = prefixed_of (k ∷ []) x (places c) here in
        let first : k ≡ k + 0 = omega arith in
        (0, r.0, r.1 ∙ ap (λ n. n ∷ r.0) first, place_is c r.0 r.2)
    | inr there ↦
        let r = place_from cs (k + 1) x there in
        let next : (k + 1) + r.0 ≡ k + suc r.0 = omega arith in
        (suc r.0, r.1, r.2 ∙ ap (λ n. n ∷ r.1) next, r.3)
  ]

mutual
  pub within_place : (c : Change) (x : List ℕ) → IsWithin c x → (y : List ℕ) × IsOf y (places c) × LiesWithin x y
  within_place same x h = absurd h
  within_place (inside cs) [] h = absurd h
  within_place (inside cs) (i ∷ x) h =
      let first : 0 + i ≡ i = omega arith in
      let r = within_from cs 0 i x h in
      (r.0, r.1, (r.2.0, ap (λ k. k ∷ x) (sym first) ∙ r.2.1))
  within_place (replaced u) x h = ([], inl refl, (x, refl))

  within_from : (cs : Changes) (k j : ℕ) (x : List ℕ) → IsWithin (nth_change cs j) x
      → (y : List ℕ) × IsOf y (places_from k cs) × LiesWithin ((k + j) ∷ x) y
  within_from no_more k j x h = absurd h
  within_from (and_then c cs) k zero x h =
      let r = within_place c x h in
      let first : k + 0 ≡ k = omega arith in (
        k ∷ r.0,
        of_left (k ∷ r.0) (below k (places c)) (places_from (k + 1) cs) (of_prefixed (k ∷ []) r.0 (places c) r.1),
        (r.2.0, λ i. first i ∷ r.2.1 i),
      )
  within_from (and_then c cs) k (suc j) x h =
      let r = within_from cs (k + 1) j x h in
      let next : k + suc j ≡ (k + 1) + j = omega arith in
      (r.0, of_right r.0 (below k (places c)) (places_from (k + 1) cs) r.1, (r.2.0, ap (λ n. n ∷ x) next ∙ r.2.1))

-- ---- the places of a change are in order

before_append : (q : List ℕ) (xs ys : Edits) → IsBeforeAll q xs → IsBeforeAll q ys → IsBeforeAll q (xs ++ ys)
before_append q [] ys h g = g
before_append q (x ∷ xs) ys h g = (h.0, before_append q xs ys h.1 g)

-- below a path
before_after : (p x y : List ℕ) → IsBefore x y → IsBefore (p ++ x) (p ++ y)
before_after [] x y h = h
before_after (i ∷ p) x y h = inr (refl, before_after p x y h)

before_all_prefixed : (p x : List ℕ) (e : Edits) → IsBeforeAll x e → IsBeforeAll (p ++ x) (prefixed p e)
before_all_prefixed p x [] h = tt
before_all_prefixed p x (y ∷ e) h = (before_after p x y.path h.0, before_all_prefixed p x e h.1)

prefixed_in_order : (p : List ℕ) (e : Edits) → AreInOrder e → AreInOrder (prefixed p e)
prefixed_in_order p [] h = tt
prefixed_in_order p (x ∷ e) h = (before_all_prefixed p x.path e h.0, prefixed_in_order p e h.1)

-- below a later child
before_later : (i k : ℕ) (p : List ℕ) (e : Edits) → i < k → IsBeforeAll (i ∷ p) (below k e)
before_later i k p [] h = tt
before_later i k p (x ∷ e) h = (inl h, before_later i k p e h)

before_from : (i k : ℕ) (p : List ℕ) (cs : Changes) → i < k → IsBeforeAll (i ∷ p) (places_from k cs)
before_from i k p no_more h = tt
before_from i k p (and_then c cs) h =
    let next : i < k + 1 = omega (arith, h) in
    before_append (i ∷ p) (below k (places c)) (places_from (k + 1) cs) (before_later i k p (places c) h)
    (before_from i (k + 1) p cs next)

in_order_then : (i k : ℕ) (e : Edits) (cs : Changes) → i < k → AreInOrder e → AreInOrder (places_from k cs)
    → AreInOrder (below i e ++ places_from k cs)
in_order_then i k [] cs less h g = g
in_order_then i k (x ∷ e) cs less h g = (
  before_append (i ∷ x.path) (below i e) (places_from k cs) (before_all_prefixed (i ∷ []) x.path e h.0)
      (before_from i k x.path cs less),
  in_order_then i k e cs less h.1 g,
)

mutual
  places_in_order : (c : Change) → AreInOrder (places c)
  places_in_order same = tt
  places_in_order (inside cs) = in_order_from 0 cs
  places_in_order (replaced u) = (tt, tt)

  in_order_from : (i : ℕ) (cs : Changes) → AreInOrder (places_from i cs)
  in_order_from i no_more = tt
  in_order_from i (and_then c cs) =
      let less : i < i + 1 = omega arith in
      in_order_then i (i + 1) (places c) cs less (places_in_order c) (in_order_from (i + 1) cs)

-- ---- the places of what edits amount to

pub outermost : (p : List ℕ) (t : Tree) (e : Edits) (q : Standing) → Leads (unchanged t) e q
    → AreOutermost (prefixed p (places (standing_change q))) (prefixed p e)
outermost p t e q h = record {
  order = prefixed_in_order p (places (standing_change q)) (places_in_order (standing_change q));
  among = of_edits;
  covers = covered;
}
  where
    edit : (y : List ℕ) → ⊥ ⊎ IsOf y e → IsOf y e
    edit y (inl never) = absurd never
    edit y (inr is) = is

    of_edits : (x : List ℕ) → IsOf x (prefixed p (places (standing_change q))) → IsOf x (prefixed p e)
    of_edits x is =
        let r = prefixed_of p x (places (standing_change q)) is in
        subst (λ l. IsOf l (prefixed p e)) (sym r.1)
        (of_prefixed p r.0 e (edit r.0 (h.among r.0 (place_is (standing_change q) r.0 r.2))))

    covered : (x : List ℕ) → IsOf x (prefixed p e)
        → (y : List ℕ) × IsOf y (prefixed p (places (standing_change q))) × LiesWithin x y
    covered x is =
        let r = prefixed_of p x e is in
        let w = within_place (standing_change q) r.0 (h.covers r.0 (inr r.2)) in (
          p ++ w.0,
          of_prefixed p w.0 (places (standing_change q)) w.1,
          (w.2.0, r.1 ∙ ap (λ l. p ++ l) w.2.1 ∙ sym (append_assoc p w.0 w.2.0)),
        )
