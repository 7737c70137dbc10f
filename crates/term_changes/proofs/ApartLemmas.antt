-- The places of a change are disjoint.
use Rattle.std.proofs.Common.{◌≡◌, ℕ, ◌+◌, ◌≤◌, List, [], ◌∷◌, ◌++◌, refl, sym, ap, subst, arith}
use Rattle.term_paths.specs.Paths.{LiesWithin}
use Rattle.term_paths.specs.Laws.{AreApart}
use Rattle.term_paths.specs.Edits.{Edits, prefixed}
use Rattle.term_changes.specs.Change.{Change, same, inside, replaced, Changes, no_more, and_then, below, places, places_from}
use Rattle.term_changes.specs.Putting.{ApartFromAll, AllApart, PlacesLieApart}

within_below : (i : ℕ) (p q : List ℕ) → LiesWithin (i ∷ p) (i ∷ q) → LiesWithin p q
within_below i p q w = let e = w.1 in (w.0, (cc))

apart_below : (i : ℕ) (p q : List ℕ) → AreApart p q → AreApart (i ∷ p) (i ∷ q)
apart_below i p q h = (λ w. h.0 (within_below i p q w), λ w. h.1 (within_below i q p w))

-- ---- below one child

from_all_below : (i : ℕ) (q : List ℕ) (ps : Edits) → ApartFromAll q ps → ApartFromAll (i ∷ q) (below i ps)
from_all_below i q [] h = tt
from_all_below i q (p ∷ ps) h = (apart_below i q p.path h.0, from_all_below i q ps h.1)

all_below : (i : ℕ) (ps : Edits) → AllApart ps → AllApart (below i ps)
all_below i [] h = tt
all_below i (p ∷ ps) h = (from_all_below i p.path ps h.0, all_below i ps h.1)

-- below a path
prefixed_child : (i : ℕ) (q : List ℕ) (ps : Edits) → prefixed (i ∷ q) ps ≡ below i (prefixed q ps)
prefixed_child i q [] = refl
prefixed_child i q (p ∷ ps) = ap (λ l. record { path = i ∷ (q ++ p.path); new = p.new } ∷ l) (prefixed_child i q ps)

prefixed_root : (ps : Edits) → prefixed [] ps ≡ ps
prefixed_root [] = refl
prefixed_root (p ∷ ps) = ap (λ l. p ∷ l) (prefixed_root ps)

-- ---- below different children

-- the path leads through child k or a later one
abbrev HeadFrom : ℕ → List ℕ → Type 0
HeadFrom k [] = ⊥
HeadFrom k (j ∷ p) = k ≤ j

abbrev HeadsFrom : ℕ → Edits → Type 0
HeadsFrom k [] = Unit {0}
HeadsFrom k (p ∷ ps) = HeadFrom k p.path × HeadsFrom k ps

heads_append : (k : ℕ) (xs ys : Edits) → HeadsFrom k xs → HeadsFrom k ys → HeadsFrom k (xs ++ ys)
heads_append k [] ys h g = g
heads_append k (x ∷ xs) ys h g = (h.0, heads_append k xs ys h.1 g)

heads_below : (k i : ℕ) (ps : Edits) → k ≤ i → HeadsFrom k (below i ps)
heads_below k i [] h = tt
heads_below k i (p ∷ ps) h = (h, heads_below k i ps h)

heads_places : (k i : ℕ) (cs : Changes) → k ≤ i → HeadsFrom k (places_from i cs)
heads_places k i no_more h = tt
heads_places k i (and_then c cs) h =
    heads_append k (below i (places c)) (places_from (i + 1) cs) (heads_below k i (places c) h)
    (heads_places k (i + 1) cs (omega (arith, h)))

apart_heads : (i : ℕ) (p q : List ℕ) → HeadFrom (i + 1) q → AreApart (i ∷ p) q
apart_heads i p [] h = absurd h
apart_heads i p (j ∷ q) h = (
  λ w. let e = w.1 in let same : i ≡ j = (cc) in omega (arith, same, h),
  λ w. let e = w.1 in let same : j ≡ i = (cc) in omega (arith, same, h),
)

apart_from_heads : (i : ℕ) (p : List ℕ) (qs : Edits) → HeadsFrom (i + 1) qs → ApartFromAll (i ∷ p) qs
apart_from_heads i p [] h = tt
apart_from_heads i p (q ∷ qs) h = (apart_heads i p q.path h.0, apart_from_heads i p qs h.1)

from_all_append : (q : List ℕ) (xs ys : Edits) → ApartFromAll q xs → ApartFromAll q ys → ApartFromAll q (xs ++ ys)
from_all_append q [] ys h g = g
from_all_append q (x ∷ xs) ys h g = (h.0, from_all_append q xs ys h.1 g)

join_apart : (i : ℕ) (ps qs : Edits) → AllApart ps → AllApart qs → HeadsFrom (i + 1) qs → AllApart (below i ps ++ qs)
join_apart i [] qs h g k = g
join_apart i (p ∷ ps) qs h g k = (
  from_all_append (i ∷ p.path) (below i ps) qs (from_all_below i p.path ps h.0) (apart_from_heads i p.path qs k),
  join_apart i ps qs h.1 g k,
)

mutual
  places_apart : (c : Change) → AllApart (places c)
  places_apart same = tt
  places_apart (inside cs) = all_places_apart 0 cs
  places_apart (replaced u) = (tt, tt)

  all_places_apart : (i : ℕ) (cs : Changes) → AllApart (places_from i cs)
  all_places_apart i no_more = tt
  all_places_apart i (and_then c cs) =
      join_apart i (places c) (places_from (i + 1) cs) (places_apart c) (all_places_apart (i + 1) cs)
      (heads_places (i + 1) (i + 1) cs (omega arith))

prefixed_apart : (ps : Edits) (q : List ℕ) → AllApart ps → AllApart (prefixed q ps)
prefixed_apart ps [] h = subst AllApart (sym (prefixed_root ps)) h
prefixed_apart ps (i ∷ q) h =
    subst AllApart (sym (prefixed_child i q ps)) (all_below i (prefixed q ps) (prefixed_apart ps q h))

pub places_lie_apart : PlacesLieApart
places_lie_apart c p = prefixed_apart (places c) p (places_apart c)
