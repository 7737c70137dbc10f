-- Edits have one list of outermost places.
use Rattle.std.proofs.Common.{◌≡◌, ◌⊎◌, ℕ, List, [], ◌∷◌, ◌++◌, length, Some, inl, inr, refl, sym, ap, subst, ◌∙◌, arith, length-append}
use Rattle.std.specs.List.{AllZip}
use Rattle.term_core.specs.Tree.{Tree}
use Rattle.term_paths.specs.Paths.{at, LiesWithin}
use Rattle.term_paths.specs.Edits.{Edits, paths}
use Rattle.strategy_meaning.specs.Outermost.{IsOf, IsBefore, IsBeforeAll, AreInOrder, AreOutermost}
use Rattle.session_history.specs.Preview.{Replacement, IsShown}

-- ---- the order of paths

before_not_after : (p q : List ℕ) → IsBefore p q → IsBefore q p → ⊥
before_not_after [] q h g = absurd h
before_not_after (i ∷ p) [] h g = absurd h
before_not_after (i ∷ p) (j ∷ q) (inl h) (inl g) = omega (arith, h, g)
before_not_after (i ∷ p) (j ∷ q) (inl h) (inr g) = omega (arith, h, g.0)
before_not_after (i ∷ p) (j ∷ q) (inr h) (inl g) = omega (arith, h.0, g)
before_not_after (i ∷ p) (j ∷ q) (inr h) (inr g) = before_not_after p q h.1 g.1

not_before_itself : (p : List ℕ) → IsBefore p p → ⊥
not_before_itself p h = before_not_after p p h h

is_before : (p x : List ℕ) (e : Edits) → IsBeforeAll p e → IsOf x e → IsBefore p x
is_before p x [] h is = absurd is
is_before p x (y ∷ e) h (inl is) = subst (IsBefore p) is h.0
is_before p x (y ∷ e) h (inr is) = is_before p x e h.1 is

-- ---- the same places

-- paths that lie within one another are the same
same_path : (x y z r s : List ℕ) → x ≡ y ++ r → y ≡ z ++ s → length x ≡ length z → x ≡ y
same_path x y z [] s first second long = first ∙ append_nil y
  where
    append_nil : (y : List ℕ) → y ++ [] ≡ y
    append_nil [] = refl
    append_nil (i ∷ y) = ap (λ l. i ∷ l) (append_nil y)
same_path x y z (i ∷ r) s first second long =
    absurd (omega (arith, ap length first, length-append y (i ∷ r), ap length second, length-append z s, long))

-- of two places in order neither lies within the other
apart_in_order : (e : Edits) (x z : List ℕ) → AreInOrder e → IsOf x e → IsOf z e → LiesWithin x z → x ≡ z
apart_in_order [] x z order a b w = absurd a
apart_in_order (y ∷ e) x z order (inl a) (inl b) w = sym a ∙ b
apart_in_order (y ∷ e) x z order (inl a) (inr b) w =
    absurd (not_before_within z w.0 (subst (λ l. IsBefore l z) (a ∙ w.1) (is_before y.path z e order.0 b)))
  where
    not_before_within : (z r : List ℕ) → IsBefore (z ++ r) z → ⊥
    not_before_within [] [] h = absurd h
    not_before_within [] (i ∷ r) h = absurd h
    not_before_within (i ∷ z) r (inl h) = omega (arith, h)
    not_before_within (i ∷ z) r (inr h) = not_before_within z r h.1
apart_in_order (y ∷ e) x z order (inr a) (inl b) w =
    absurd (not_before_inner z w.0
    (subst (λ l. IsBefore z l) w.1 (subst (λ l. IsBefore l x) b (is_before y.path x e order.0 a))))
  where
    not_before_inner : (z r : List ℕ) → IsBefore z (z ++ r) → ⊥
    not_before_inner [] r h = absurd h
    not_before_inner (i ∷ z) r (inl h) = omega (arith, h)
    not_before_inner (i ∷ z) r (inr h) = not_before_inner z r h.1
apart_in_order (y ∷ e) x z order (inr a) (inr b) w = apart_in_order e x z order.1 a b w

within_twice : (x y z : List ℕ) → LiesWithin x y → LiesWithin y z → LiesWithin x z
within_twice x y z w v = (v.0 ++ w.0, w.1 ∙ ap (λ l. l ++ w.0) v.1 ∙ assoc z v.0 w.0)
  where
    assoc : (a b c : List ℕ) → (a ++ b) ++ c ≡ a ++ (b ++ c)
    assoc [] b c = refl
    assoc (i ∷ a) b c = ap (λ l. i ∷ l) (assoc a b c)

same_places : (ps qs e : Edits) → AreOutermost ps e → AreOutermost qs e → (x : List ℕ) → IsOf x ps → IsOf x qs
same_places ps qs e p q x is =
    let w = q.covers x (p.among x is) in
    let v = p.covers w.0 (q.among w.0 w.1) in
    let same : x ≡ v.0 = apart_in_order ps x v.0 p.order is v.1 (within_twice x w.0 v.0 w.2 v.2) in
    subst (λ l. IsOf l qs) (sym (same_path x w.0 v.0 w.2.0 v.2.0 w.2.1 v.2.1 (ap length same))) w.1

-- ---- the same order

same_paths : (ps qs : Edits) → AreInOrder ps → AreInOrder qs → ((x : List ℕ) → IsOf x ps → IsOf x qs)
    → ((x : List ℕ) → IsOf x qs → IsOf x ps) → paths ps ≡ paths qs
same_paths [] [] h g forth back = refl
same_paths [] (q ∷ qs) h g forth back = absurd (back q.path (inl refl))
same_paths (p ∷ ps) [] h g forth back = absurd (forth p.path (inl refl))
same_paths (p ∷ ps) (q ∷ qs) h g forth back =
    let first : p.path ≡ q.path = heads (forth p.path (inl refl)) (back q.path (inl refl)) in
    let rest = same_paths ps qs h.1 g.1
    (λ x is. after x (λ same.
    not_before_itself x (subst (λ l. IsBefore l x) (first ∙ same) (is_before p.path x ps h.0 is))) (forth x (inr is)))
    (λ x is. after_p x (λ same. not_before_itself x
    (subst (λ l. IsBefore l x) (sym first ∙ same) (is_before q.path x qs g.0 is))) (back x (inr is))) in
    (λ i. first i ∷ rest i)
  where
    heads : (q.path ≡ p.path) ⊎ IsOf p.path qs → (p.path ≡ q.path) ⊎ IsOf q.path ps → p.path ≡ q.path
    heads (inl same) right = sym same
    heads (inr left) (inl same) = same
    heads (inr left) (inr right) = absurd
        (before_not_after p.path q.path (is_before p.path q.path ps h.0 right) (is_before q.path p.path qs g.0 left))

    after : (x : List ℕ) → ((q.path ≡ x) → ⊥) → (q.path ≡ x) ⊎ IsOf x qs → IsOf x qs
    after x never (inl same) = absurd (never same)
    after x never (inr is) = is

    after_p : (x : List ℕ) → ((p.path ≡ x) → ⊥) → (p.path ≡ x) ⊎ IsOf x ps → IsOf x ps
    after_p x never (inl same) = absurd (never same)
    after_p x never (inr is) = is

pub outermost_paths : (ps qs e : Edits) → AreOutermost ps e → AreOutermost qs e → paths ps ≡ paths qs
outermost_paths ps qs e p q = same_paths ps qs p.order q.order (same_places ps qs e p q) (same_places qs ps e q p)

-- ---- what places show depends on their paths alone

same_tree : (t u : Tree) → Some t ≡ Some u → t ≡ u
same_tree t u e = cc

same_replacement : (r s : Replacement) → r.path ≡ s.path → r.old ≡ s.old → r.new ≡ s.new → r ≡ s
same_replacement r s path old new = λ i. record { path = path i; old = old i; new = new i }

module _ (path : List ℕ) (before after : Tree) where
  shown_same : (p q : List ℕ) (r s : Replacement)
      → p ≡ q → (r.path ≡ path ++ p) × (at before p ≡ Some r.old) × (at after p ≡ Some r.new)
      → (s.path ≡ path ++ q) × (at before q ≡ Some s.old) × (at after q ≡ Some s.new) → r ≡ s
  shown_same p q r s e x y =
      same_replacement r s (x.0 ∙ ap (λ l. path ++ l) e ∙ sym y.0)
      (same_tree r.old s.old (sym x.1 ∙ ap (at before) e ∙ y.1))
      (same_tree r.new s.new (sym x.2 ∙ ap (at after) e ∙ y.2))

  pub shown_one : (ps qs : Edits) (rs ss : List Replacement) → paths ps ≡ paths qs
      → AllZip (IsShown path before after) ps rs → AllZip (IsShown path before after) qs ss → rs ≡ ss
  shown_one [] [] [] [] same p q = refl
  shown_one [] [] [] (s ∷ ss) same p q = absurd q
  shown_one [] [] (r ∷ rs) ss same p q = absurd p
  shown_one [] (y ∷ qs) rs ss same p q = absurd (cc)
  shown_one (x ∷ ps) [] rs ss same p q = absurd (cc)
  shown_one (x ∷ ps) (y ∷ qs) [] ss same p q = absurd p
  shown_one (x ∷ ps) (y ∷ qs) (r ∷ rs) [] same p q = absurd q
  shown_one (x ∷ ps) (y ∷ qs) (r ∷ rs) (s ∷ ss) same p q =
      let here : x.path ≡ y.path = cc in
      let others : paths ps ≡ paths qs = cc in
      λ i. shown_same x.path y.path r s here p.0 q.0 i ∷ shown_one ps qs rs ss others p.1 q.1 i
