-- Heights are kept.
use Rattle.std.proofs.Common.{◌≡◌, ℕ, ◌+◌, ◌≤◌, ◌<◌, zero, suc, max, nat_le, ◌&&◌, Bool, true, false, List, [], ◌∷◌, ◌++◌, take, drop, set, refl, ap, slice_get, Some, arith}
use Rattle.std.proofs.lemmas.Bool.{leb-true}
use Rattle.term_core.specs.Tree.{application, list, tuple, Tree, integer, branch, to_list, of_list, children, with_children, with_child}
use Rattle.term_core.specs.Size.{height, heights, size}
use Rattle.term_core.specs.declared.TheConstants.{MAX_HEIGHT}
use Rattle.term_core.proofs.TreeLemmas.{of_list-to_list}
use Rattle.strategy_meaning.specs.Matching.{elements}
use Rattle.term_paths.specs.Edits.{Edits}
use Rattle.strategy_meaning.specs.Meaning.{rest_of, with_rest, run}
use Rattle.strategy_meaning.specs.Laws.{HeightsAreKept}
use Rattle.strategy_meaning.proofs.Composes.{Composes, if_done-map, bounded-gives}

-- ---- heights of lists

-- the height of the highest of them
abbrev top : List Tree → ℕ
top us = heights (of_list us)

top-get : (us : List Tree) (i : ℕ) (u : Tree) → slice_get us i ≡ Some u → height u ≤ top us
top-get [] i u e = absurd (cc)
top-get (x ∷ us) zero u e = let same : x ≡ u = cc in omega (arith, ap height same)
top-get (x ∷ us) (suc i) u e = omega (arith, top-get us i u e)

top-set : (us : List Tree) (i : ℕ) (v : Tree) → top (set us i v) ≤ max (top us) (height v)
top-set [] i v = omega arith
top-set (x ∷ us) zero v = omega arith
top-set (x ∷ us) (suc i) v = omega (arith, top-set us i v)

top-take : (us : List Tree) (n : ℕ) → top (take n us) ≤ top us
top-take us zero = omega arith
top-take [] (suc n) = omega arith
top-take (x ∷ us) (suc n) = omega (arith, top-take us n)

top-drop : (us : List Tree) (n : ℕ) → top (drop n us) ≤ top us
top-drop us zero = omega arith
top-drop [] (suc n) = omega arith
top-drop (x ∷ us) (suc n) = omega (arith, top-drop us n)

top-append : (us vs : List Tree) → top (us ++ vs) ≡ max (top us) (top vs)
top-append [] vs = omega arith
top-append (x ∷ us) vs = omega (arith, top-append us vs)

-- ---- heights of terms

below_top : (t : Tree) → top (children t) < height t
below_top (integer z notes) = omega arith
below_top (branch h kids notes) = omega (arith, ap heights (of_list-to_list kids))

-- with other children a term is at most as high as before, or as these require
with_children-height : (t : Tree) (us : List Tree) → height (with_children t us) ≤ max (height t) (suc (top us))
with_children-height (integer z notes) us = omega arith
with_children-height (branch h kids notes) us = omega arith

elements-height : (u : Tree) (us : List Tree) → elements u ≡ Some us → top us < height u
elements-height (integer z notes) us e = absurd (cc)
elements-height (branch (application f) kids notes) us e = absurd (cc)
elements-height (branch tuple kids notes) us e = absurd (cc)
elements-height (branch list kids notes) us e =
    let same : to_list kids ≡ us = cc in omega (arith, ap top same, ap heights (of_list-to_list kids))

and-left : (a b : Bool) → a && b ≡ true → a ≡ true
and-left true b e = refl
and-left false b e = e

-- ---- the meaning of strategies

abbrev Kept : ℕ → Tree → Tree → Edits → Type 0
Kept l t u e = l + height t ≤ MAX_HEIGHT → l + height u ≤ MAX_HEIGHT

pub below-kept : (l : ℕ) (t u v : Tree) (i : ℕ) → slice_get (children t) i ≡ Some u
    → (l + 1 + height u ≤ MAX_HEIGHT → l + 1 + height v ≤ MAX_HEIGHT)
    → l + height t ≤ MAX_HEIGHT → l + height (with_child t i v) ≤ MAX_HEIGHT
below-kept l t u v i is h low =
    let inner : height u < height t = omega (arith, top-get (children t) i u is, below_top t) in
    let before : l + 1 + height u ≤ MAX_HEIGHT = omega (arith, inner, low) in
    omega (arith, h before, below_top t, top-set (children t) i v, with_children-height t (set (children t) i v), low)

after-kept : (l : ℕ) (t u : Tree) (n : ℕ) (us : List Tree)
    → (l + height (rest_of n t) ≤ MAX_HEIGHT → l + height u ≤ MAX_HEIGHT)
    → elements u ≡ Some us → l + height t ≤ MAX_HEIGHT → l + height (with_rest n t us) ≤ MAX_HEIGHT
after-kept l t u n us h is low =
    let before : l + height (rest_of n t) ≤ MAX_HEIGHT = omega (arith, top-drop (children t) n, below_top t, low) in
    omega (
      arith,
      h before,
      elements-height u us is,
      below_top t,
      top-take (children t) n,
      top-append (take n (children t)) us,
      with_children-height t (take n (children t) ++ us),
      low,
    )

kept : Composes Kept
kept = record {
  left = λ l t low. low;
  after = λ l t u v e f h g low. g (h low);
  built = λ room l t u fit low. leb-true (l + height u) MAX_HEIGHT (and-left _ (nat_le (size u) room) fit);
  below = λ l t u v i e is h. below-kept l t u v i is h;
  rest = λ l t u n us e h is. after-kept l t u n us h is;
}

pub heights_are_kept : HeightsAreKept
heights_are_kept W E l s b B t low =
    if_done-map (run W E l s b B t) _ _ (λ u B1 c e h. h low) (bounded-gives Kept kept W b E l s b B t)
