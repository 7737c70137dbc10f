-- Trees that agree along a path, and what differs once something is changed at its end.
use Rattle.std.proofs.Common.{◌≡◌, ℕ, zero, suc, ◌+◌, ◌<◌, ◌⊎◌, inl, inr, List, [], ◌∷◌, ◌++◌, length, slice_get, Some, None, set, ◌-◌, refl, sym, ap, ◌∙◌, subst, arith, append_assoc, append-nil}
use Rattle.std.specs.Prelude.{option_and_then}
use Rattle.std.proofs.lemmas.List.{length-append, length-set, set-append_right}
use Rattle.term_core.specs.Tree.{Head, Tree, Trees, integer, branch, to_list, of_list}
use Rattle.term_core.proofs.TreeLemmas.{to_list-of_list, of_list-to_list}
use Rattle.term_paths.specs.Paths.{at}
use Rattle.term_paths.proofs.PathLemmas.{changed_at, changed_at-child, changed_at-no_child, at-child}
use Rattle.strategy_meaning.proofs.SameLemmas.{head-self}
use Rattle.session_history.specs.Differences.{Difference, differences, differences_from}
use Rattle.session_changes.proofs.DifferenceLemmas.{trees_same, as_many_by, differences_same, kid_there, kid_set}

-- ---- trees that agree along a path

-- Both are this head over children of which those before number i are the same, and in the child of
-- number i they agree so.
pub record Branches (i : ℕ) (Next : Tree → Tree → Type 0) (t u : Tree) : Type 0 where
  pub head : Head
  pub notes : Trees
  pub front : List Tree
  pub kid : Tree
  pub kid_too : Tree
  pub after : List Tree
  pub after_too : List Tree
  pub place : length front ≡ i
  pub count : length after ≡ length after_too
  pub is : t ≡ branch head (of_list (front ++ kid ∷ after)) notes
  pub is_too : u ≡ branch head (of_list (front ++ kid_too ∷ after_too)) notes
  pub next : Next kid kid_too

-- They agree along the path, and at its end as End says.
abbrev pub Along : (Tree → Tree → Type 0) → List ℕ → Tree → Tree → Type 0
Along End [] t u = End t u
Along End (i ∷ p) t u = Branches i (Along End p) t u

-- ---- children after some

passed : (q : List ℕ) (i : ℕ) (front ts us : List Tree) → differences_from q i
    (of_list (front ++ ts)) (of_list (front ++ us)) ≡ differences_from q (i + length front) (of_list ts) (of_list us)
passed q i [] ts us = let here : i ≡ i + 0 = omega arith in
    ap (λ n. differences_from q n (of_list ts) (of_list us)) here
passed q i (x ∷ front) ts us =
    let here : i + 1 + length front ≡ i + suc (length front) = omega arith in
    ap (λ l. l ++ differences_from q (i + 1) (of_list (front ++ ts)) (of_list (front ++ us)))
    (differences_same (q ++ i ∷ []) x)
    ∙ passed q (i + 1) front ts us
    ∙ ap (λ n. differences_from q n (of_list ts) (of_list us)) here

-- where only the children from some number on may differ
below_branch : (q : List ℕ) (h : Head) (ns : Trees) (front : List Tree) (a b : Tree) (us vs : List Tree)
    → length us ≡ length vs
    → differences q (branch h (of_list (front ++ a ∷ us)) ns) (branch h (of_list (front ++ b ∷ vs)) ns)
    ≡ differences (q ++ length front ∷ []) a b ++ differences_from q (length front + 1) (of_list us) (of_list vs)
below_branch q h ns front a b us vs e =
    let ts = of_list (front ++ a ∷ us) in
    let xs = of_list (front ++ b ∷ vs) in
    let first = to_list-of_list (front ++ a ∷ us) in
    let second = to_list-of_list (front ++ b ∷ vs) in
    let count : length (to_list ts) ≡ length (to_list xs) =
    omega (arith, e, ap length first, ap length second, length-append front (a ∷ us), length-append front (b ∷ vs)) in
    let zero_more : 0 + length front ≡ length front = omega arith in
    rw (head-self h, as_many_by ts xs count, trees_same ns)
    (passed q 0 front
    (a ∷ us) (b ∷ vs) ∙ ap (λ n. differences_from q n (of_list (a ∷ us)) (of_list (b ∷ vs))) zero_more)

-- ---- a change at the end

module _ (f : Tree → Tree) (extra : List ℕ → Tree → List Difference) (End : Tree → Tree → Type 0)
    (at_end : (q : List ℕ) (t u : Tree) → End t u → differences q (f t) u ≡ extra q u ++ differences q t u) where
  pub change_differs : (q p : List ℕ) (t u w : Tree) → Along End p t u → at u p ≡ Some w
      → differences q (changed_at f t p) u ≡ extra (q ++ p) w ++ differences q t u
  change_differs q [] t u w h e =
      let same : u ≡ w = (cc) in
      at_end q t u h ∙ (λ k. extra (sym (append-nil q) k) (same k) ++ differences q t u)
  change_differs q (i ∷ p) t u w h e =
      let hd = h.head in
      let ns = h.notes in
      let j = length h.front in
      let t' = branch hd (of_list (h.front ++ h.kid ∷ h.after)) ns in
      let u' = branch hd (of_list (h.front ++ h.kid_too ∷ h.after_too)) ns in
      let rest = differences_from q (j + 1) (of_list h.after) (of_list h.after_too) in
      let there : at h.kid_too p ≡ Some w =
      sym (at-child u' h.kid_too j p (kid_there hd ns h.front h.kid_too h.after_too))
      ∙ (λ k. at (sym h.is_too k) (h.place k ∷ p)) ∙ e in
      let moved : changed_at f t (i ∷ p) ≡ branch hd (of_list (h.front ++ changed_at f h.kid p ∷ h.after)) ns =
      (λ k. changed_at f (h.is k) (sym h.place k ∷ p))
      ∙ changed_at-child f t' h.kid j p (kid_there hd ns h.front h.kid h.after)
      ∙ kid_set hd ns h.front h.kid h.after (changed_at f h.kid p) in
      (λ k. differences q (moved k) (h.is_too k))
      ∙ below_branch q hd ns h.front (changed_at f h.kid p) h.kid_too h.after h.after_too h.count
      ∙ ap (λ l. l ++ rest) (change_differs (q ++ j ∷ []) p h.kid h.kid_too w h.next there)
      ∙ append_assoc (extra ((q ++ j ∷ []) ++ p) w) (differences (q ++ j ∷ []) h.kid h.kid_too) rest
      ∙ (λ k. extra ((append_assoc q (j ∷ []) p ∙ ap (λ n. q ++ n ∷ p) h.place) k) w
      ++ (sym (below_branch q hd ns h.front h.kid h.kid_too h.after h.after_too h.count)
      ∙ (λ m. differences q (sym h.is m) (sym h.is_too m))) k)

-- ---- what keeps them so

-- The second path leads to a later child where the two part; or it goes on after the first, if it
-- may.
abbrev pub Later : Type 0 → List ℕ → List ℕ → Type 0
Later May [] [] = ⊥
Later May [] (j ∷ r) = May
Later May (i ∷ p) [] = ⊥
Later May (i ∷ p) (j ∷ r) = (i < j) ⊎ ((i ≡ j) × Later May p r)

-- a list around one of its elements
record Parted (l : List Tree) (i : ℕ) (kid : Tree) : Type 0 where
  front : List Tree
  after : List Tree
  place : length front ≡ i
  is : l ≡ front ++ kid ∷ after

parted : (l : List Tree) (i : ℕ) (kid : Tree) → slice_get l i ≡ Some kid → Parted l i kid
parted [] i kid e = absurd (cc)
parted (x ∷ l) zero kid e = let same : x ≡ kid = cc in
    record { front = []; after = l; place = refl; is = λ k. same k ∷ l }
parted (x ∷ l) (suc i) kid e =
    let r = parted l i kid e in
    record { front = x ∷ r.front; after = r.after; place = ap suc r.place; is = ap (λ l. x ∷ l) r.is }

-- a tree agrees with itself
pub along_itself : (End : Tree → Tree → Type 0) → ((t : Tree) → End t t) → (p : List ℕ) (u w : Tree) → at u p ≡ Some w
    → Along End p u u
along_itself End end [] u w e = end u
along_itself End end (i ∷ p) (integer z ns) w e = absurd (cc)
along_itself End end (i ∷ p) (branch h us ns) w e =
    elim (slice_get (to_list us) i) as (λ o. slice_get (to_list us) i ≡ o → option_and_then (λ kid. at kid p) o ≡ Some w
    → Branches i (Along End p) (branch h us ns) (branch h us ns)) [
      | None ↦ λ g e. absurd (cc)
      | Some kid ↦ λ g e.
          let r = parted (to_list us) i kid g in
          let all : branch h us ns ≡ branch h (of_list (r.front ++ kid ∷ r.after)) ns =
          (λ k. branch h (sym (of_list-to_list us) k) ns) ∙ ap (λ l. branch h (of_list l) ns) r.is in
          record {
            head = h;
            notes = ns;
            front = r.front;
            kid = kid;
            kid_too = kid;
            after = r.after;
            after_too = r.after;
            place = r.place;
            count = refl;
            is = all;
            is_too = all;
            next = along_itself End end p kid w e;
          }
    ] refl e

-- a later child changes
later_child : (i j : ℕ) (Next : Tree → Tree → Type 0) (g : Tree → Tree) (r : List ℕ) (t u : Tree)
    → i < j → Branches i Next t u → Branches i Next (changed_at g t (j ∷ r)) u
later_child i j Next g r t u less h =
    let all = h.front ++ h.kid ∷ h.after in
    let t' = branch h.head (of_list all) h.notes in
    elim (slice_get all j) as (λ o. slice_get all j ≡ o → Branches i Next (changed_at g t (j ∷ r)) u) [
      | None ↦ λ e. subst (λ x. Branches i Next x u)
          (sym ((λ k. changed_at g (h.is k) (j ∷ r)) ∙ changed_at-no_child g t' j r
          (ap (λ l. slice_get l j) (to_list-of_list all) ∙ e) ∙ sym h.is)) h
      | Some kid ↦ λ e.
          let x = changed_at g kid r in
          let n = length h.front in
          let m = j - suc n in
          let far : j - n ≡ suc m = omega (arith, less, h.place) in
          let moved : changed_at g t (j ∷ r) ≡ branch h.head (of_list (h.front ++ h.kid ∷ set h.after m x)) h.notes =
          (λ k. changed_at g (h.is k) (j ∷ r))
          ∙ changed_at-child g t' kid j r (ap (λ l. slice_get l j) (to_list-of_list all) ∙ e)
          ∙ ap (λ l. branch h.head (of_list (set l j x)) h.notes) (to_list-of_list all)
          ∙ ap (λ l. branch h.head (of_list l) h.notes)
          (set-append_right h.front (h.kid ∷ h.after) n j x refl (omega (arith, less, h.place))
          ∙ ap (λ q. h.front ++ set (h.kid ∷ h.after) q x) far) in
          record {
            head = h.head;
            notes = h.notes;
            front = h.front;
            kid = h.kid;
            kid_too = h.kid_too;
            after = set h.after m x;
            after_too = h.after_too;
            place = h.place;
            count = length-set h.after m x ∙ h.count;
            is = moved;
            is_too = h.is_too;
            next = h.next;
          }
    ] refl

module _ (End : Tree → Tree → Type 0) (May : Type 0) (g : Tree → Tree)
    (end_kept : (t u : Tree) → End t u → May → (j : ℕ) (r : List ℕ) → End (changed_at g t (j ∷ r)) u) where
  pub later_kept : (p r : List ℕ) (t u : Tree) → Along End p t u → Later May p r → Along End p (changed_at g t r) u
  later_kept [] [] t u h later = absurd later
  later_kept [] (j ∷ r) t u h later = end_kept t u h later j r
  later_kept (i ∷ p) [] t u h later = absurd later
  later_kept (i ∷ p) (j ∷ r) t u h later =
      elim later [
        | inl less ↦ later_child i j (Along End p) g r t u less h
        | inr same ↦
            (let n = length h.front in
            let t' = branch h.head (of_list (h.front ++ h.kid ∷ h.after)) h.notes in
            let here : j ≡ n = sym same.0 ∙ sym h.place in
            let moved : changed_at g t (j ∷ r) ≡ branch h.head
            (of_list (h.front ++ changed_at g h.kid r ∷ h.after)) h.notes =
            (λ k. changed_at g (h.is k) (here k ∷ r))
            ∙ changed_at-child g t' h.kid n r (kid_there h.head h.notes h.front h.kid h.after)
            ∙ kid_set h.head h.notes h.front h.kid h.after (changed_at g h.kid r) in
            record {
              head = h.head;
              notes = h.notes;
              front = h.front;
              kid = changed_at g h.kid r;
              kid_too = h.kid_too;
              after = h.after;
              after_too = h.after_too;
              place = h.place;
              count = h.count;
              is = moved;
              is_too = h.is_too;
              next = later_kept p r h.kid h.kid_too h.next same.1;
            })
      ]
