-- The content of slots after a swap.
use Rattle.std.proofs.Common.{◌≡◌, ℕ, zero, suc, ◌+◌, cond, List, [], ◌∷◌, ◌++◌, length, map, slice_get, Option, Some, None, option_map, option_and_then, unwrap_or, is_some, IsSome, Bool, true, false, refl, sym, ap, subst, ◌∙◌, arith}
use Rattle.std.specs.Bool.{OnTrue, OnFalse}
use Rattle.std.specs.Prelude.{nat_eq, nat_lt, position, if◌then◌else◌}
use Rattle.std.specs.Cmp.Lexicographic.{pointwise}
use Rattle.std.proofs.lemmas.List.Recursion.{is_position_or_len}
use Rattle.std.proofs.lemmas.Bool.Decides.{nat_tests}
use Rattle.std.proofs.lemmas.Cmp.{nat_list_eq_equiv}
use Rattle.indexmap.specs.IndexMap.{insert_entry}
use Rattle.term_core.specs.Tree.{Tree, annotations}
use Rattle.term_paths.specs.Paths.{at, leads, annotations_at, set_at, set_annotations_at}
use Rattle.term_paths.proofs.LawLemmas.{swapping_twice, swapping_annotations_twice, set_nowhere, set_annotations_nowhere, set_is_there, set_annotations_are_there}
use Rattle.term_changes.specs.Slots.{Slots, labels, slot_at, content, with_content, slot_of, with_slot}
use Rattle.term_changes.specs.Entries.{subterm_in, annotations_in, changed_tree}

module _ {X : Type 0} where
  pub length-with_content : (ss : Slots X) (i : ℕ) (c : Option X) → length (with_content ss i c) ≡ length ss
  length-with_content [] i c = refl
  length-with_content (s ∷ ss) zero c = refl
  length-with_content (s ∷ ss) (suc i) c = ap suc (length-with_content ss i c)

  -- swapping the content of a slot twice restores it
  pub slot_twice : (ss : Slots X) (i : ℕ) (c : Option X)
      → with_content (with_content ss i c) i (unwrap_or (slot_at ss i) c) ≡ ss
  slot_twice [] i c = refl
  slot_twice (s ∷ ss) zero c = refl
  slot_twice (s ∷ ss) (suc i) c = ap (λ l. s ∷ l) (slot_twice ss i c)

  pub slot_found_twice : (ss : Slots X) (i : ℕ) (c : Option X)
      → unwrap_or (slot_at (with_content ss i c) i) (unwrap_or (slot_at ss i) c) ≡ c
  slot_found_twice [] i c = refl
  slot_found_twice (s ∷ ss) zero c = refl
  slot_found_twice (s ∷ ss) (suc i) c = slot_found_twice ss i c

  -- if there is no such slot, nothing is put
  pub no_slot : (ss : Slots X) (i : ℕ) (c : Option X) → slice_get ss i ≡ None → with_content ss i c ≡ ss
  no_slot [] i c e = refl
  no_slot (s ∷ ss) zero c e = absurd (cc)
  no_slot (s ∷ ss) (suc i) c e = ap (λ l. s ∷ l) (no_slot ss i c e)

  -- putting what is already there changes nothing
  pub same_content : (ss : Slots X) (i : ℕ) → with_content ss i (content ss i) ≡ ss
  same_content [] i = refl
  same_content (s ∷ ss) zero = refl
  same_content (s ∷ ss) (suc i) = ap (λ l. s ∷ l) (same_content ss i)

  -- the same in terms of the list of contents
  value_at : (es : Slots X) (i : ℕ) → slice_get (map (λ e. e.1) es) i ≡ slot_at es i
  value_at [] i = refl
  value_at (e ∷ es) zero = refl
  value_at (e ∷ es) (suc i) = value_at es i

  no_slot_at : (es : Slots X) (i : ℕ) → None ≡ slot_at es i → slice_get es i ≡ None
  no_slot_at [] i h = refl
  no_slot_at (e ∷ es) zero h = absurd (cc)
  no_slot_at (e ∷ es) (suc i) h = no_slot_at es i h

  pub nothing_put : (es ss : Slots X) (i : ℕ) (c : Option X) → es ≡ ss → None ≡ slice_get (map (λ e. e.1) es) i
      → es ≡ with_content ss i c
  nothing_put es ss i c v h = sym (no_slot es i c (no_slot_at es i (h ∙ value_at es i)))
      ∙ ap (λ l. with_content l i c) v

  pub found_at : (es ss : Slots X) (i : ℕ) (o : Option (Option X)) (c : Option X)
      → es ≡ ss → o ≡ slice_get (map (λ e. e.1) es) i → unwrap_or o c ≡ unwrap_or (slot_at ss i) c
  found_at es ss i o c v h = ap (λ o. unwrap_or o c) (h ∙ value_at es i) ∙ ap (λ l. unwrap_or (slot_at l i) c) v

  content_slot_at : (es : Slots X) (i : ℕ) → content es i ≡ option_and_then (λ c. c) (slot_at es i)
  content_slot_at [] i = refl
  content_slot_at (e ∷ es) zero = refl
  content_slot_at (e ∷ es) (suc i) = content_slot_at es i

  pub content_at : (es ss : Slots X) (i : ℕ) (o : Option (Option X)) → es ≡ ss → o ≡ slice_get (map (λ e. e.1) es) i
      → content ss i ≡ option_and_then (λ c. c) o
  content_at es ss i o v h = ap (λ l. content l i) (sym v) ∙ content_slot_at es i
      ∙ ap (option_and_then (λ c. c)) (sym (value_at es i) ∙ sym h)

-- ---- a part of a slot's tree: f puts it and g gets it

module _ {Y : Type 0} (f : Tree → Y → Tree) (g : Tree → Y → Y) where
  -- what is found in the tree, if there is one
  abbrev pub found_in : Option Tree → Y → Y
  found_in None y = y
  found_in (Some t) y = g t y

  module _ (back : (t : Tree) (y : Y) → f (f t y) (g t y) ≡ t) (kept : (t : Tree) (y : Y) → g (f t y) (g t y) ≡ y) where
    tree_twice : (o : Option Tree) (y : Y) → option_map (λ t. f t (found_in o y)) (option_map (λ t. f t y) o) ≡ o
    tree_twice None y = refl
    tree_twice (Some t) y = ap Some (back t y)

    found_twice : (o : Option Tree) (y : Y) → found_in (option_map (λ t. f t y) o) (found_in o y) ≡ y
    found_twice None y = refl
    found_twice (Some t) y = kept t y

    pub part_twice : (ss : Slots Tree) (i : ℕ) (y : Y)
        → changed_tree (λ t. f t (found_in (content ss i) y)) (changed_tree (λ t. f t y) ss i) i ≡ ss
    part_twice [] i y = refl
    part_twice (s ∷ ss) zero y = λ j. (s.0, tree_twice s.1 y j) ∷ ss
    part_twice (s ∷ ss) (suc i) y = ap (λ l. s ∷ l) (part_twice ss i y)

    pub part_found_twice : (ss : Slots Tree) (i : ℕ) (y : Y)
        → found_in (content (changed_tree (λ t. f t y) ss i) i) (found_in (content ss i) y) ≡ y
    part_found_twice [] i y = refl
    part_found_twice (s ∷ ss) zero y = found_twice s.1 y
    part_found_twice (s ∷ ss) (suc i) y = part_found_twice ss i y

  -- a slot without a tree is unchanged
  pub no_tree : (h : Tree → Tree) (ss : Slots Tree) (i : ℕ) → content ss i ≡ None → changed_tree h ss i ≡ ss
  no_tree h ss i e = ap (λ o. with_content ss i (option_map h o)) e ∙ ap (with_content ss i) (sym e) ∙ same_content ss i

  -- what an existing tree becomes
  pub content-changed_tree : (h : Tree → Tree) (ss : Slots Tree) (i : ℕ)
      → content (changed_tree h ss i) i ≡ option_map h (content ss i)
  content-changed_tree h [] i = refl
  content-changed_tree h (s ∷ ss) zero = refl
  content-changed_tree h (s ∷ ss) (suc i) = content-changed_tree h ss i

-- ---- subterms and annotations at paths

subterm_of : List ℕ → Tree → Tree → Tree
subterm_of p t u = unwrap_or (at t p) u

annotations_of : List ℕ → Tree → List Tree → List Tree
annotations_of p t us = unwrap_or (annotations_at t p) us

subterm_found : (p : List ℕ) (o : Option Tree) (u : Tree)
    → found_in (λ t u. set_at t p u) (λ t u. unwrap_or (at t p) u) o u ≡ unwrap_or (option_and_then (λ t. at t p) o) u
subterm_found p None u = refl
subterm_found p (Some t) u = refl

annotations_found : (p : List ℕ) (o : Option Tree) (us : List Tree) → found_in (λ t us. set_annotations_at t p us)
    (λ t us. unwrap_or (annotations_at t p) us) o us ≡ unwrap_or (option_and_then (λ t. annotations_at t p) o) us
annotations_found p None us = refl
annotations_found p (Some t) us = refl

pub subterm_twice : (p : List ℕ) (ss : Slots Tree) (i : ℕ) (u : Tree)
    → changed_tree (λ t. set_at t p (unwrap_or (subterm_in ss i p) u)) (changed_tree (λ t. set_at t p u) ss i) i ≡ ss
subterm_twice p ss i u =
    ap (λ v. changed_tree (λ t. set_at t p v) (changed_tree (λ t. set_at t p u) ss i) i)
    (sym (subterm_found p (content ss i) u))
    ∙ part_twice (λ t u. set_at t p u) (λ t u. unwrap_or (at t p) u) (λ t u. ap (λ a. a.0) (swapping_twice p t u))
    (λ t u. ap (λ a. a.1) (swapping_twice p t u)) ss i u

pub subterm_found_twice : (p : List ℕ) (ss : Slots Tree) (i : ℕ) (u : Tree)
    → unwrap_or (subterm_in (changed_tree (λ t. set_at t p u) ss i) i p) (unwrap_or (subterm_in ss i p) u) ≡ u
subterm_found_twice p ss i u =
    ap (unwrap_or (subterm_in (changed_tree (λ t. set_at t p u) ss i) i p)) (sym (subterm_found p (content ss i) u))
    ∙ sym (subterm_found p (content (changed_tree (λ t. set_at t p u) ss i) i)
    (found_in (λ t u. set_at t p u) (λ t u. unwrap_or (at t p) u) (content ss i) u))
    ∙ part_found_twice (λ t u. set_at t p u) (λ t u. unwrap_or (at t p) u) (λ t u. ap (λ a. a.0) (swapping_twice p t u))
    (λ t u. ap (λ a. a.1) (swapping_twice p t u)) ss i u

pub annotations_twice : (p : List ℕ) (ss : Slots Tree) (i : ℕ) (us : List Tree)
    → changed_tree (λ t. set_annotations_at t p (unwrap_or (annotations_in ss i p) us))
    (changed_tree (λ t. set_annotations_at t p us) ss i) i ≡ ss
annotations_twice p ss i us =
    ap (λ v. changed_tree (λ t. set_annotations_at t p v) (changed_tree (λ t. set_annotations_at t p us) ss i) i)
    (sym (annotations_found p (content ss i) us))
    ∙ part_twice (λ t us. set_annotations_at t p us) (λ t us. unwrap_or (annotations_at t p) us)
    (λ t us. ap (λ a. a.0) (swapping_annotations_twice p t us))
    (λ t us. ap (λ a. a.1) (swapping_annotations_twice p t us)) ss i us

pub annotations_found_twice : (p : List ℕ) (ss : Slots Tree) (i : ℕ) (us : List Tree)
    → unwrap_or (annotations_in (changed_tree (λ t. set_annotations_at t p us) ss i) i p)
    (unwrap_or (annotations_in ss i p) us) ≡ us
annotations_found_twice p ss i us =
    ap (unwrap_or (annotations_in (changed_tree (λ t. set_annotations_at t p us) ss i) i p))
    (sym (annotations_found p (content ss i) us))
    ∙ sym (annotations_found p (content (changed_tree (λ t. set_annotations_at t p us) ss i) i)
    (found_in (λ t us. set_annotations_at t p us) (λ t us. unwrap_or (annotations_at t p) us) (content ss i) us))
    ∙ part_found_twice (λ t us. set_annotations_at t p us) (λ t us. unwrap_or (annotations_at t p) us)
    (λ t us. ap (λ a. a.0) (swapping_annotations_twice p t us))
    (λ t us. ap (λ a. a.1) (swapping_annotations_twice p t us)) ss i us

-- ---- a place that exists still exists

some : {X : Type 0} (o : Option X) → IsSome o → (x : X) × (o ≡ Some x)
some None h = absurd (cc)
some (Some x) h = (x, refl)

is_there : {X : Type 0} {o : Option X} (x : X) → o ≡ Some x → IsSome o
is_there x e = ap is_some e

still_subterm : (p : List ℕ) (u : Tree) (o : Option Tree) → IsSome (option_and_then (λ t. at t p) o)
    → IsSome (option_and_then (λ t. at t p) (option_map (λ t. set_at t p u) o))
still_subterm p u None h = h
still_subterm p u (Some t) h = let old = some (at t p) h in is_there u (set_is_there t u old.0 p old.1)

pub subterm_stays : (p : List ℕ) (ss : Slots Tree) (i : ℕ) (u : Tree) → IsSome (subterm_in ss i p)
    → IsSome (subterm_in (changed_tree (λ t. set_at t p u) ss i) i p)
subterm_stays p ss i u h =
    subst (λ o. IsSome (option_and_then (λ t. at t p) o))
    (sym (content-changed_tree (λ t (y : Tree). t) (λ t (y : Tree). y) (λ t. set_at t p u) ss i))
    (still_subterm p u (content ss i) h)

bearer : (o : Option Tree) (us : List Tree) → option_map annotations o ≡ Some us → IsSome o
bearer None us e = absurd (cc)
bearer (Some t) us e = refl

still_annotated : (p : List ℕ) (us : List Tree) (o : Option Tree) → IsSome (option_and_then (λ t. at t p) o)
    → IsSome (option_and_then (λ t. at t p) (option_map (λ t. set_annotations_at t p us) o))
still_annotated p us None h = h
still_annotated p us (Some t) h =
    let old = some (at t p) h in
    bearer (at (set_annotations_at t p us) p) us
    (set_annotations_are_there t us (annotations old.0) p (ap (option_map annotations) old.1))

pub annotated_stays : (p : List ℕ) (ss : Slots Tree) (i : ℕ) (us : List Tree) → IsSome (subterm_in ss i p)
    → IsSome (subterm_in (changed_tree (λ t. set_annotations_at t p us) ss i) i p)
annotated_stays p ss i us h =
    subst (λ o. IsSome (option_and_then (λ t. at t p) o))
    (sym (content-changed_tree (λ t (y : Tree). t) (λ t (y : Tree). y) (λ t. set_annotations_at t p us) ss i))
    (still_annotated p us (content ss i) h)

-- ---- what the calls on a slot's tree leave

nowhere : (o : Option Tree) → false ≡ is_some o → o ≡ None
nowhere None h = refl
nowhere (Some t) h = absurd (cc)

-- no slot, or an empty one
pub tree_stays : (h : Tree → Tree) (es ss : Slots Tree) (i : ℕ) (o : Option (Option Tree))
    → es ≡ ss → o ≡ slice_get (map (λ e. e.1) es) i
    → option_and_then (λ c. c) o ≡ None → es ≡ changed_tree h ss i
tree_stays h es ss i o v g n = v
    ∙ sym (no_tree (λ t (y : Tree). t) (λ t (y : Tree). y) h ss i (content_at es ss i o v g ∙ n))

pub empty_put : (h : Tree → Tree) (es ss : Slots Tree) (i : ℕ) (c : Option Tree)
    → es ≡ ss → Some c ≡ slice_get (map (λ e. e.1) es) i
    → c ≡ None → with_content es i c ≡ changed_tree h ss i
empty_put h es ss i c v g n =
    ap (with_content es i) (sym (content_at es ss i (Some c) v g)) ∙ ap (λ l. with_content l i (content ss i)) v
    ∙ same_content ss i
    ∙ sym (no_tree (λ t (y : Tree). t) (λ t (y : Tree). y) h ss i (content_at es ss i (Some c) v g ∙ n))

-- what is found in a tree, in terms of the list of contents
pub found_part : {Y : Type 0} (f : Tree → Option Y) (es ss : Slots Tree) (i : ℕ) (o : Option (Option Tree)) (y : Y)
    → es ≡ ss → o ≡ slice_get (map (λ e. e.1) es) i
    → unwrap_or (option_and_then f (option_and_then (λ c. c) o)) y ≡ unwrap_or (option_and_then f (content ss i)) y
found_part f es ss i o y v g = ap (λ o. unwrap_or (option_and_then f o) y) (sym (content_at es ss i o v g))

-- a tree that was changed
pub tree_put : (h : Tree → Tree) (es ss : Slots Tree) (i : ℕ) (t u : Tree)
    → es ≡ ss → Some (Some t) ≡ slice_get (map (λ e. e.1) es) i
    → u ≡ h t → with_content es i (Some u) ≡ changed_tree h ss i
tree_put h es ss i t u v g e =
    ap (λ l. with_content l i (Some u)) v
    ∙ ap (with_content ss i) (ap Some e ∙ ap (option_map h) (sym (content_at es ss i (Some (Some t)) v g)))

-- what a swap at a path leaves, whether or not the place exists
pub set_or_stays : (r : Bool) (t new u old : Tree) (p : List ℕ) → r ≡ leads t p → OnTrue r (new ≡ set_at t p u)
    → OnFalse r ((new ≡ t) × (old ≡ u)) → new ≡ set_at t p u
set_or_stays true t new u old p l h k = h
set_or_stays false t new u old p l h k = k.0 ∙ sym (set_nowhere t u p (nowhere (at t p) l))

pub old_or_stays : (r : Bool) (t new u old : Tree) (p : List ℕ) → r ≡ leads t p → OnTrue r (at t p ≡ Some old)
    → OnFalse r ((new ≡ t) × (old ≡ u)) → old ≡ unwrap_or (at t p) u
old_or_stays true t new u old p l h k = ap (λ o. unwrap_or o u) (sym h)
old_or_stays false t new u old p l h k = k.1 ∙ ap (λ o. unwrap_or o u) (sym (nowhere (at t p) l))

pub set_annotations_or_stays : (r : Bool) (t new : Tree) (us old : List Tree) (p : List ℕ) → r ≡ leads t p
    → OnTrue r (new ≡ set_annotations_at t p us) → OnFalse r ((new ≡ t) × (old ≡ us)) → new ≡ set_annotations_at t p us
set_annotations_or_stays true t new us old p l h k = h
set_annotations_or_stays false t new us old p l h k = k.0
    ∙ sym (set_annotations_nowhere t us p (ap (option_map annotations) (nowhere (at t p) l)))

pub old_annotations_or_stay : (r : Bool) (t new : Tree) (us old : List Tree) (p : List ℕ) → r ≡ leads t p → OnTrue r
    (annotations_at t p ≡ Some old) → OnFalse r ((new ≡ t) × (old ≡ us)) → old ≡ unwrap_or (annotations_at t p) us
old_annotations_or_stay true t new us old p l h k = ap (λ o. unwrap_or o us) (sym h)
old_annotations_or_stay false t new us old p l h k = k.1
    ∙ ap (λ o. unwrap_or (option_map annotations o) us) (sym (nowhere (at t p) l))

-- ---- the slot of a label

-- the first index where p holds, or the length
abbrev place : {A : Type 0} → (A → Bool) → List A → ℕ
place p [] = 0
place p (x ∷ xs) = cond (p x) 0 (1 + place p xs)

by_place : {A : Type 0} (p : A → Bool) (xs : List A)
    → position p xs ≡ cond (nat_lt (place p xs) (length xs)) (Some (place p xs)) None
by_place p xs =
    ap (λ n. cond (nat_lt n (length xs)) (Some n) None) (sym (is_position_or_len (place p) p refl (λ x xs. refl) xs))

next_place : (b : Bool) (n m : ℕ) (o : Option ℕ) → cond (nat_lt n m) (Some n) None ≡ o
    → cond (nat_lt (cond b 0 (1 + n)) (suc m)) (Some (cond b 0 (1 + n))) None
    ≡ (if b then Some 0 else option_map (λ i. i + 1) o)
next_place true n m o h = let less : nat_lt 0 (suc m) ≡ true = grind (arith, nat_tests) in
    ap (λ b. cond b (Some 0) None) less
next_place false n m o h =
    let less : nat_lt (1 + n) (suc m) ≡ nat_lt n m = grind (arith, nat_tests) in
    ap (λ b. cond b (Some (1 + n)) None) less ∙ mapped (nat_lt n m) ∙ ap (option_map (λ i. i + 1)) h
  where
    mapped : (b : Bool) → cond b (Some (1 + n)) None ≡ option_map (λ i. i + 1) (cond b (Some n) None)
    mapped true = ap Some (omega arith)
    mapped false = refl

none_further : (o : Option ℕ) → option_map (λ i. i + 1) o ≡ None → o ≡ None
none_further None e = refl
none_further (Some i) e = absurd (cc)

self_same : (name : List ℕ) → pointwise nat_eq name name ≡ true
self_same name = nat_list_eq_equiv.refl name

module _ {X : Type 0} where
  slot_of-place : (ss : Slots X) (name : List ℕ)
      → cond (nat_lt (place (pointwise nat_eq name) (labels ss)) (length (labels ss)))
      (Some (place (pointwise nat_eq name) (labels ss))) None ≡ slot_of ss name
  slot_of-place [] name = refl
  slot_of-place (s ∷ ss) name =
      next_place (pointwise nat_eq name s.0) (place (pointwise nat_eq name) (labels ss)) (length (labels ss))
      (slot_of ss name) (slot_of-place ss name)

  -- a map finds a label at the index of its slot
  pub position-slot_of : (ss : Slots X) (name : List ℕ) → position (pointwise nat_eq name) (labels ss) ≡ slot_of ss name
  position-slot_of ss name = by_place (pointwise nat_eq name) (labels ss) ∙ slot_of-place ss name

  -- a new label goes last
  insert_new : (ss : Slots X) (name : List ℕ) (c : Option X)
      → slot_of ss name ≡ None → insert_entry (pointwise nat_eq) ss name c ≡ ss ++ (name, c) ∷ []
  insert_new [] name c e = refl
  insert_new (s ∷ ss) name c e =
      elim (pointwise nat_eq name s.0) as (λ b. (if b then Some 0 else option_map (λ i. i + 1) (slot_of ss name)) ≡ None
      → (if b then (s.0, c) ∷ ss else s ∷ insert_entry (pointwise nat_eq) ss name c) ≡ s ∷ (ss ++ (name, c) ∷ [])) [
        | true ↦ λ e. absurd (cc)
        | false ↦ λ e. ap (λ l. s ∷ l) (insert_new ss name c (none_further (slot_of ss name) e))
      ] e

  slot_of_last : (ss : Slots X) (name : List ℕ) (c : Option X)
      → slot_of ss name ≡ None → slot_of (ss ++ (name, c) ∷ []) name ≡ Some (length ss)
  slot_of_last [] name c e = ap (λ b. if b then Some 0 else None) (self_same name)
  slot_of_last (s ∷ ss) name c e =
      elim (pointwise nat_eq name s.0) as (λ b. (if b then Some 0 else option_map (λ i. i + 1) (slot_of ss name))
      ≡ None → (if b then Some 0 else option_map (λ i. i + 1) (slot_of (ss ++ (name, c) ∷ []) name))
      ≡ Some (suc (length ss))) [
        | true ↦ λ e. absurd (cc)
        | false ↦ λ e. ap (option_map (λ i. i + 1)) (slot_of_last ss name c (none_further (slot_of ss name) e))
            ∙ ap Some (omega arith)
      ] e

  -- a label that already has a slot
  pub slot_stays : (ss es : Slots X) (name : List ℕ) (i : ℕ) → es ≡ ss → Some i
      ≡ position (pointwise nat_eq name) (labels es) → (es ≡ with_slot ss name) × (slot_of es name ≡ Some i)
  slot_stays ss es name i v h =
      let found : slot_of es name ≡ Some i = sym (h ∙ position-slot_of es name) in
      (v ∙ ap (λ o. if is_some o then ss else ss ++ (name, None) ∷ []) (sym found ∙ ap (λ l. slot_of l name) v), found)

  -- a label that gets one
  pub slot_made : (ss es fs : Slots X) (name key : List ℕ) → es ≡ ss → None ≡ position (pointwise nat_eq name)
      (labels es) → key ≡ name → fs ≡ insert_entry (pointwise nat_eq) es key None
      → (fs ≡ with_slot ss name) × (slot_of fs name ≡ Some (length es))
  slot_made ss es fs name key v h k e =
      let absent : slot_of es name ≡ None = sym (h ∙ position-slot_of es name) in
      let grown : fs ≡ es ++ (name, None) ∷ [] = e ∙ ap (λ k. insert_entry (pointwise nat_eq) es k None) k
      ∙ insert_new es name None absent in (
        grown ∙ ap (λ l. l ++ (name, None) ∷ []) v
            ∙ ap (λ o. if is_some o then ss else ss ++ (name, None) ∷ []) (sym absent ∙ ap (λ l. slot_of l name) v),
        ap (λ l. slot_of l name) grown ∙ slot_of_last es name None absent,
      )
