-- Where trees differ.
use Rattle.std.proofs.Common.{◌≡◌, ℕ, suc, ◌+◌, ◌<◌, ◌≤◌, Bool, true, false, ◌&&◌, ◌↔◌, List, [], ◌∷◌, ◌++◌, length, get_or, set, slice_get, Some, drop, refl, sym, ap, ◌∙◌, arith, append-nil}
use Rattle.std.specs.Ordering.{int_eq}
use Rattle.std.proofs.Math.Seq.{set-append_seam}
use Rattle.std.proofs.lemmas.List.{drop_more, drop_all, length-set}
use Rattle.std.proofs.lemmas.Bool.Decides.{Decides-int_eq}
use Rattle.term_core.specs.Tree.{same_name, Head, list, Tree, Trees, integer, branch, none, more, to_list, of_list, children, annotations, with_annotations, with_child}
use Rattle.term_core.specs.Kind.{made_of}
use Rattle.term_core.specs.declared.kind.Kind.{Kind}
use Rattle.term_core.specs.declared.kind.Kind.TheVariants.{Integer, Application, List as AList, Tuple}
use Rattle.term_core.proofs.TreeLemmas.{to_list-of_list, of_list-to_list}
use Rattle.strategy_meaning.specs.Same.{same_head, same_trees}
use Rattle.strategy_meaning.proofs.SameLemmas.{head-self, same_is_equal}
use Rattle.session_history.specs.Differences.{subterms_differ, annotations_differ, as_many, annotated, differences, differences_from}
use Rattle.session_changes.specs.inside.Lined.{same_kind}
use Rattle.session_changes.specs.DifferenceLaws.{same_root}

-- ---- tests

pub and_left : (a b : Bool) → a && b ≡ true → a ≡ true
and_left true b e = refl
and_left false b e = e

pub and_right : (a b : Bool) → a && b ≡ true → b ≡ true
and_right true b e = e
and_right false b e = absurd (cc)

pub and_false : (a : Bool) → a && false ≡ false
and_false true = refl
and_false false = refl

and_true : (a : Bool) → a && true ≡ a
and_true true = refl
and_true false = refl

-- two tests of one fact
pub same_tests : (a b : Bool) (P : Type 0) → (a ≡ true) ↔ P → (b ≡ true) ↔ P → a ≡ b
same_tests true b P f g = sym (g.1 (f.0 refl))
same_tests false true P f g = f.1 (g.0 refl)
same_tests false false P f g = refl

-- ---- equal trees

pub trees_same : (ts : Trees) → same_trees ts ts ≡ true
trees_same ts = and_left (same_trees ts ts) true ((same_is_equal (branch list ts none) (branch list ts none)).1 refl)

kids_of_list : (ts us : Trees) → branch list ts none ≡ branch list us none → ts ≡ us
kids_of_list ts us e = cc

pub trees_equal : (ts us : Trees) → (same_trees ts us ≡ true) ↔ (ts ≡ us)
trees_equal ts us = (
  λ e.
      kids_of_list ts us
      ((same_is_equal (branch list ts none) (branch list us none)).0 (and_true (same_trees ts us) ∙ e)),
  λ e. ap (same_trees ts) (sym e) ∙ trees_same ts,
)

as_many_same : (ts : Trees) → as_many ts ts ≡ true
as_many_same none = refl
as_many_same (more t ts) = as_many_same ts

pub annotated_same : (path : List ℕ) (ts : Trees) → annotated path ts ts ≡ []
annotated_same path ts = rw (trees_same ts) refl

pub annotated_equal : (path : List ℕ) (ts us : List Tree) → ts ≡ us → annotated path (of_list ts) (of_list us) ≡ []
annotated_equal path ts us e = ap (λ l. annotated path (of_list l) (of_list us)) e ∙ annotated_same path (of_list us)

pub annotated_apart : (path : List ℕ) (ts us : List Tree)
    → (ts ≡ us → ⊥) → annotated path (of_list ts) (of_list us) ≡ annotations_differ path (of_list ts) (of_list us) ∷ []
annotated_apart path ts us never =
    let alike = trees_equal (of_list ts) (of_list us) in
    let test : same_trees (of_list ts) (of_list us) ≡ false =
    same_tests (same_trees (of_list ts) (of_list us)) false ⊥
    (λ e. never (sym (to_list-of_list ts) ∙ ap to_list (alike.0 e) ∙ to_list-of_list us), λ e. absurd e)
    (λ e. (cc), λ e. absurd e) in
    rw test refl

-- Nothing differs in equal trees.
mutual
  pub differences_same : (path : List ℕ) (t : Tree) → differences path t t ≡ []
  differences_same path (integer z ns) = rw ((Decides-int_eq z z).1 refl) (annotated_same path ns)
  differences_same path (branch h us ns) = rw (head-self h, as_many_same us, trees_same ns) (from_same path 0 us)

  pub from_same : (path : List ℕ) (i : ℕ) (ts : Trees) → differences_from path i ts ts ≡ []
  from_same path i none = refl
  from_same path i (more t ts) =
      ap (λ l. l ++ differences_from path (i + 1) ts ts) (differences_same (path ++ i ∷ []) t)
      ∙ from_same path (i + 1) ts

-- ---- by the root

pub differ_at_root : (path : List ℕ) (t u : Tree)
    → same_root t u ≡ false → differences path t u ≡ subterms_differ path t u ∷ []
differ_at_root path (integer y ns) (integer z ms) e = let test : int_eq y z ≡ false = e in rw test refl
differ_at_root path (integer y ns) (branch k vs ms) e = refl
differ_at_root path (branch h us ns) (integer z ms) e = refl
differ_at_root path (branch h us ns) (branch k vs ms) e = let test : same_head h k && as_many us vs ≡ false = e in
    rw test refl

pub differ_below : (path : List ℕ) (t u : Tree) → same_root t u ≡ true
    → differences path t u ≡ annotated path (of_list (annotations t)) (of_list (annotations u))
    ++ differences_from path 0 (of_list (children t)) (of_list (children u))
differ_below path (integer y ns) (integer z ms) e =
    let test : int_eq y z ≡ true = e in
    rw test ((λ k. annotated path (sym (of_list-to_list ns) k) (sym (of_list-to_list ms) k))
    ∙ sym (append-nil (annotated path (of_list (to_list ns)) (of_list (to_list ms)))))
differ_below path (integer y ns) (branch k vs ms) e = absurd (cc)
differ_below path (branch h us ns) (integer z ms) e = absurd (cc)
differ_below path (branch h us ns) (branch k vs ms) e =
    let test : same_head h k && as_many us vs ≡ true = e in
    rw test (λ j. annotated path (sym (of_list-to_list ns) j) (sym (of_list-to_list ms) j)
    ++ differences_from path 0 (sym (of_list-to_list us) j) (sym (of_list-to_list vs) j))

pub as_many_count : (ts us : Trees) → as_many ts us ≡ true → length (to_list ts) ≡ length (to_list us)
as_many_count none none e = refl
as_many_count none (more u us) e = absurd (cc)
as_many_count (more t ts) none e = absurd (cc)
as_many_count (more t ts) (more u us) e = ap suc (as_many_count ts us e)

pub as_many_by : (ts us : Trees) → length (to_list ts) ≡ length (to_list us) → as_many ts us ≡ true
as_many_by none none e = refl
as_many_by none (more u us) e = absurd (omega (arith, e))
as_many_by (more t ts) none e = absurd (omega (arith, e))
as_many_by (more t ts) (more u us) e = as_many_by ts us (omega (arith, e))

pub root_count : (t u : Tree) → same_root t u ≡ true → length (children t) ≡ length (children u)
root_count (integer y ns) (integer z ms) e = refl
root_count (integer y ns) (branch k vs ms) e = absurd (cc)
root_count (branch h us ns) (integer z ms) e = absurd (cc)
root_count (branch h us ns) (branch k vs ms) e = as_many_count us vs (and_right (same_head h k) (as_many us vs) e)

-- with other numbers of children the roots differ
pub root_apart : (t u : Tree) → (length (children t) ≡ length (children u) → ⊥) → same_root t u ≡ false
root_apart (integer y ns) (integer z ms) never = absurd (never refl)
root_apart (integer y ns) (branch k vs ms) never = refl
root_apart (branch h us ns) (integer z ms) never = refl
root_apart (branch h us ns) (branch k vs ms) never =
    elim (as_many us vs) as (λ b. as_many us vs ≡ b → same_head h k && b ≡ false) [
      | true ↦ λ e. absurd (never (as_many_count us vs e))
      | false ↦ λ e. and_false (same_head h k)
    ] refl

-- with as many the kinds decide
root_made : (a b : Kind) (us ns vs ms : List Tree) → length (children (made_of a us ns))
    ≡ length (children (made_of b vs ms)) → same_root (made_of a us ns) (made_of b vs ms) ≡ same_kind a b
root_made (Integer y) (Integer z) us ns vs ms e = refl
root_made (Integer y) (Application g) us ns vs ms e = refl
root_made (Integer y) AList us ns vs ms e = refl
root_made (Integer y) Tuple us ns vs ms e = refl
root_made (Application f) (Integer z) us ns vs ms e = refl
root_made (Application f) (Application g) us ns vs ms e =
    ap (λ b. same_name f.now g.now && b) (as_many_by (of_list us) (of_list vs) e) ∙ and_true (same_name f.now g.now)
root_made (Application f) AList us ns vs ms e = refl
root_made (Application f) Tuple us ns vs ms e = refl
root_made AList (Integer z) us ns vs ms e = refl
root_made AList (Application g) us ns vs ms e = refl
root_made AList AList us ns vs ms e = as_many_by (of_list us) (of_list vs) e
root_made AList Tuple us ns vs ms e = refl
root_made Tuple (Integer z) us ns vs ms e = refl
root_made Tuple (Application g) us ns vs ms e = refl
root_made Tuple AList us ns vs ms e = refl
root_made Tuple Tuple us ns vs ms e = as_many_by (of_list us) (of_list vs) e

pub root_alike : (t u : Tree) (a b : Kind) → t ≡ made_of a (children t) (annotations t)
    → u ≡ made_of b (children u) (annotations u)
    → length (children t) ≡ length (children u) → same_root t u ≡ same_kind a b
root_alike t u a b is are e =
    (λ k. same_root (is k) (are k))
    ∙ root_made a b (children t) (annotations t) (children u) (annotations u)
    (sym (ap (λ t. length (children t)) is) ∙ e ∙ ap (λ u. length (children u)) are)

-- ---- one child after the other

pub next_child : (path : List ℕ) (i : ℕ) (ts us : List Tree) (d : Tree) → i < length ts → i < length us
    → differences_from path i (of_list (drop i ts)) (of_list (drop i us))
    ≡ differences (path ++ i ∷ []) (get_or ts i d) (get_or us i d)
    ++ differences_from path (i + 1) (of_list (drop (i + 1) ts)) (of_list (drop (i + 1) us))
next_child path i ts us d h g =
    λ k. differences_from path i (of_list (drop_more ts i d h k)) (of_list (drop_more us i d g k))

pub past_children : (path : List ℕ) (i : ℕ) (ts us : List Tree)
    → length ts ≤ i → differences_from path i (of_list (drop i ts)) (of_list (drop i us)) ≡ []
past_children path i ts us h = ap (λ l. differences_from path i (of_list l) (of_list (drop i us))) (drop_all i ts h)

-- ---- a child after others

module _ (h : Head) (ns : Trees) (front : List Tree) (u : Tree) (after : List Tree) where
  seam : (front : List Tree) → slice_get (front ++ u ∷ after) (length front) ≡ Some u
  seam [] = refl
  seam (x ∷ front) = seam front

  pub kid_there : slice_get (children (branch h (of_list (front ++ u ∷ after)) ns)) (length front) ≡ Some u
  kid_there = ap (λ l. slice_get l (length front)) (to_list-of_list (front ++ u ∷ after)) ∙ seam front

  pub kid_set : (t : Tree) → with_child (branch h (of_list (front ++ u ∷ after)) ns) (length front) t
      ≡ branch h (of_list (front ++ t ∷ after)) ns
  kid_set t =
      ap (λ l. branch h (of_list (set l (length front) t)) ns) (to_list-of_list (front ++ u ∷ after))
      ∙ ap (λ l. branch h (of_list l) ns) (set-append_seam front u after t)

-- ---- annotations, and what is below

pub root_same : (t : Tree) → same_root t t ≡ true
root_same (integer z ns) = (Decides-int_eq z z).1 refl
root_same (branch h us ns) = rw (head-self h) (as_many_same us)

-- other annotations leave root and children
pub root_kept : (t : Tree) (ts : List Tree)
    → ((u : Tree) → same_root (with_annotations t ts) u ≡ same_root t u)
    × (annotations (with_annotations t ts) ≡ ts) × (children (with_annotations t ts) ≡ children t)
root_kept (integer z ns) ts = (kept, to_list-of_list ts, refl)
  where
    kept : (u : Tree) → same_root (integer z (of_list ts)) u ≡ same_root (integer z ns) u
    kept (integer y ms) = refl
    kept (branch k vs ms) = refl
root_kept (branch h us ns) ts = (kept, to_list-of_list ts, refl)
  where
    kept : (u : Tree) → same_root (branch h us (of_list ts)) u ≡ same_root (branch h us ns) u
    kept (integer y ms) = refl
    kept (branch k vs ms) = refl

-- so does another child, if it is counted alone
pub child_kept : (t : Tree) (i : ℕ) (x u : Tree) → same_root t u ≡ true → same_root (with_child t i x) u ≡ true
child_kept (integer z ns) i x u e = e
child_kept (branch h us ns) i x (integer y ms) e = absurd (cc)
child_kept (branch h us ns) i x (branch k vs ms) e =
    let head = and_left (same_head h k) (as_many us vs) e in
    let count = as_many_count us vs (and_right (same_head h k) (as_many us vs) e) in
    let ts = of_list (set (to_list us) i x) in
    let more : length (to_list ts) ≡ length (to_list vs) = ap length (to_list-of_list (set (to_list us) i x))
    ∙ length-set (to_list us) i x ∙ count in
    rw head (as_many_by ts vs more)

pub child_notes : (t : Tree) (i : ℕ) (x : Tree) → annotations (with_child t i x) ≡ annotations t
child_notes (integer z ns) i x = refl
child_notes (branch h us ns) i x = refl
