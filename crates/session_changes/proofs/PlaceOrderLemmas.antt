-- The places where trees differ are in order.
use Rattle.std.proofs.Common.{◌≡◌, ℕ, ◌+◌, ◌<◌, ◌≤◌, inl, inr, true, false, ◌&&◌, List, [], ◌∷◌, ◌++◌, refl, sym, ◌∙◌, subst, arith, append_assoc, append-nil, if◌then◌else◌}
use Rattle.std.specs.Ordering.{int_eq}
use Rattle.term_core.specs.Tree.{Tree, Trees, integer, branch, none, more}
use Rattle.strategy_meaning.specs.Same.{same_head, same_trees}
use Rattle.strategy_meaning.specs.Outermost.{IsBefore}
use Rattle.session_history.specs.Differences.{Difference, subterms_differ, annotations_differ, as_many, annotated, differences, differences_from}
use Rattle.session_changes.specs.DifferenceLaws.{place, ComesFirst, AreInPlaceOrder, DifferencesAreInOrder}

abbrev AllAt : (List ℕ → Type 0) → List Difference → Type 0
AllAt P [] = Unit {0}
AllAt P (d ∷ ds) = P (place d) × AllAt P ds

-- at this path or below it; below it, in a child from number i on
abbrev IsFrom : List ℕ → List ℕ → Type 0
IsFrom p q = (r : List ℕ) × (q ≡ p ++ r)

abbrev IsBelow : List ℕ → ℕ → List ℕ → Type 0
IsBelow p i q = (j : ℕ) × (r : List ℕ) × (i ≤ j) × (q ≡ p ++ j ∷ r)

module _ (P : List ℕ → Type 0) where
  all_append : (ds es : List Difference) → AllAt P ds → AllAt P es → AllAt P (ds ++ es)
  all_append [] es h g = g
  all_append (d ∷ ds) es h g = (h.0, all_append ds es h.1 g)

  module _ (Q : List ℕ → Type 0) (weaker : (q : List ℕ) → P q → Q q) where
    all_weaker : (ds : List Difference) → AllAt P ds → AllAt Q ds
    all_weaker [] h = tt
    all_weaker (d ∷ ds) h = (weaker (place d) h.0, all_weaker ds h.1)

below_from : (p q : List ℕ) (i : ℕ) → IsBelow p i q → IsFrom p q
below_from p q i h = (h.0 ∷ h.1, h.3)

child_below : (p q : List ℕ) (i : ℕ) → IsFrom (p ++ i ∷ []) q → IsBelow p i q
child_below p q i h = (i, h.0, omega arith, h.1 ∙ append_assoc p (i ∷ []) h.0)

later_below : (p q : List ℕ) (i : ℕ) → IsBelow p (i + 1) q → IsBelow p i q
later_below p q i h = let l = h.2 in (h.0, h.1, omega arith, h.3)

annotated_from : (p : List ℕ) (ns ms : Trees) → AllAt (IsFrom p) (annotated p ns ms)
annotated_from p ns ms = elim (same_trees ns ms) as (λ b. AllAt (IsFrom p)
    (if b then [] else annotations_differ p ns ms ∷ [])) [ true ↦ tt | false ↦ (([], sym (append-nil p)), tt) ]

mutual
  tree_from : (p : List ℕ) (t u : Tree) → AllAt (IsFrom p) (differences p t u)
  tree_from p (integer y ns) (integer z ms) =
      elim (int_eq y z) as (λ b.
      AllAt (IsFrom p) (if b then annotated p ns ms else subterms_differ p (integer y ns) (integer z ms) ∷ [])) [
        | true ↦ annotated_from p ns ms
        | false ↦ (([], sym (append-nil p)), tt)
      ]
  tree_from p (integer y ns) (branch k vs ms) = (([], sym (append-nil p)), tt)
  tree_from p (branch h us ns) (integer z ms) = (([], sym (append-nil p)), tt)
  tree_from p (branch h us ns) (branch k vs ms) =
      elim (same_head h k && as_many us vs) as (λ b. AllAt (IsFrom p) (if b then annotated p ns ms
      ++ differences_from p 0 us vs else subterms_differ p (branch h us ns) (branch k vs ms) ∷ [])) [
        | true ↦ all_append (IsFrom p) (annotated p ns ms) (differences_from p 0 us vs) (annotated_from p ns ms)
            (all_weaker (IsBelow p 0) (IsFrom p) (λ q. below_from p q 0) (differences_from p 0 us vs)
            (trees_below p 0 us vs))
        | false ↦ (([], sym (append-nil p)), tt)
      ]

  trees_below : (p : List ℕ) (i : ℕ) (ts us : Trees) → AllAt (IsBelow p i) (differences_from p i ts us)
  trees_below p i none none = tt
  trees_below p i none (more u us) = tt
  trees_below p i (more t ts) none = tt
  trees_below p i (more t ts) (more u us) =
      all_append (IsBelow p i) (differences (p ++ i ∷ []) t u) (differences_from p (i + 1) ts us)
      (all_weaker (IsFrom (p ++ i ∷ [])) (IsBelow p i) (λ q. child_below p q i) (differences (p ++ i ∷ []) t u)
      (tree_from (p ++ i ∷ []) t u))
      (all_weaker (IsBelow p (i + 1)) (IsBelow p i) (λ q. later_below p q i) (differences_from p (i + 1) ts us)
      (trees_below p (i + 1) ts us))

-- ---- in order

before_later : (p r s : List ℕ) (i j : ℕ) → i < j → IsBefore (p ++ i ∷ r) (p ++ j ∷ s)
before_later [] r s i j h = inl h
before_later (k ∷ p) r s i j h = inr (refl, before_later p r s i j h)

first_before : (p : List ℕ) (i : ℕ) (d : Difference) (r : List ℕ) → place d ≡ p ++ i ∷ r → (es : List Difference)
    → AllAt (IsBelow p (i + 1)) es → ComesFirst d es
first_before p i d r e [] h = tt
first_before p i d r e (x ∷ es) h =
    let theirs = h.0 in
    let l = theirs.2 in
    let less : i < theirs.0 = omega (arith, l) in
    let first : IsBefore (place d) (place x) =
    subst (λ q. IsBefore q (place x)) (sym e)
    (subst (IsBefore (p ++ i ∷ r)) (sym theirs.3) (before_later p r theirs.1 i theirs.0 less)) in
    (inl first, first_before p i d r e es h.1)

first_append : (d : Difference) (ds es : List Difference) → ComesFirst d ds → ComesFirst d es → ComesFirst d (ds ++ es)
first_append d [] es h g = g
first_append d (x ∷ ds) es h g = (h.0, first_append d ds es h.1 g)

children_first : (p : List ℕ) (i : ℕ) (ds es : List Difference) → AllAt (IsFrom (p ++ i ∷ [])) ds → AreInPlaceOrder ds
    → AllAt (IsBelow p (i + 1)) es → AreInPlaceOrder es → AreInPlaceOrder (ds ++ es)
children_first p i [] es h o g w = w
children_first p i (d ∷ ds) es h o g w =
    let e = h.0.1 ∙ append_assoc p (i ∷ []) h.0.0 in
    (first_append d ds es o.0 (first_before p i d h.0.0 e es g), children_first p i ds es h.1 o.1 g w)

annotations_first : (p : List ℕ) (ns ms : Trees) (es : List Difference) → AllAt (IsBelow p 0) es
    → ComesFirst (annotations_differ p ns ms) es
annotations_first p ns ms [] h = tt
annotations_first p ns ms (e ∷ es) h = (inr (h.0.0, h.0.1, h.0.3), annotations_first p ns ms es h.1)

annotated_first : (p : List ℕ) (ns ms : Trees) (es : List Difference) → AllAt (IsBelow p 0) es → AreInPlaceOrder es
    → AreInPlaceOrder (annotated p ns ms ++ es)
annotated_first p ns ms es h o =
    elim (same_trees ns ms) as (λ b. AreInPlaceOrder ((if b then [] else annotations_differ p ns ms ∷ [])
    ++ es)) [ true ↦ o | false ↦ (annotations_first p ns ms es h, o) ]

annotated_order : (p : List ℕ) (ns ms : Trees) → AreInPlaceOrder (annotated p ns ms)
annotated_order p ns ms = elim (same_trees ns ms) as (λ b.
    AreInPlaceOrder (if b then [] else annotations_differ p ns ms ∷ [])) [ true ↦ tt | false ↦ (tt, tt) ]

mutual
  tree_order : (p : List ℕ) (t u : Tree) → AreInPlaceOrder (differences p t u)
  tree_order p (integer y ns) (integer z ms) =
      elim (int_eq y z) as (λ b. AreInPlaceOrder (if b then annotated p ns ms else subterms_differ p (integer y ns)
      (integer z ms) ∷ [])) [ true ↦ annotated_order p ns ms | false ↦ (tt, tt) ]
  tree_order p (integer y ns) (branch k vs ms) = (tt, tt)
  tree_order p (branch h us ns) (integer z ms) = (tt, tt)
  tree_order p (branch h us ns) (branch k vs ms) =
      elim (same_head h k && as_many us vs) as (λ b. AreInPlaceOrder (if b then annotated p ns ms
      ++ differences_from p 0 us vs else subterms_differ p (branch h us ns) (branch k vs ms) ∷ [])) [
        | true ↦ annotated_first p ns ms (differences_from p 0 us vs) (trees_below p 0 us vs) (trees_order p 0 us vs)
        | false ↦ (tt, tt)
      ]

  trees_order : (p : List ℕ) (i : ℕ) (ts us : Trees) → AreInPlaceOrder (differences_from p i ts us)
  trees_order p i none none = tt
  trees_order p i none (more u us) = tt
  trees_order p i (more t ts) none = tt
  trees_order p i (more t ts) (more u us) =
      children_first p i (differences (p ++ i ∷ []) t u) (differences_from p (i + 1) ts us)
      (tree_from (p ++ i ∷ []) t u) (tree_order (p ++ i ∷ []) t u) (trees_below p (i + 1) ts us)
      (trees_order p (i + 1) ts us)

pub differences_are_in_order : DifferencesAreInOrder
differences_are_in_order t u = tree_order [] t u
