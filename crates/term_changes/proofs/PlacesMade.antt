-- Setting the places of a change makes the change.
use Rattle.std.proofs.Common.{◌≡◌, ℕ, ◌+◌, ◌≤◌, List, [], ◌∷◌, ◌++◌, length, slice_get, Some, refl, sym, ap, ◌∙◌, arith, append_assoc, length-append}
use Rattle.std.specs.Prelude.{slice_set}
use Rattle.std.proofs.lemmas.Option.{slice_get_past}
use Rattle.term_core.specs.Tree.{Tree, children, with_children, with_child}
use Rattle.term_paths.specs.Paths.{set_at}
use Rattle.term_paths.proofs.PathLemmas.{set_at-child, child-with_child, with_child-with_child, with_child-same}
use Rattle.term_paths.specs.Edits.{Edits, edited}
use Rattle.term_changes.specs.Change.{Change, same, inside, replaced, Changes, no_more, and_then, changed, changed_all, below, places, places_from}
use Rattle.term_changes.specs.Putting.{PlacesMakeTheChange}
use Rattle.term_changes.proofs.NodeLemmas.{children-with_children, with_children-with_children, same_children}

-- the tree after the edits
abbrev pub put_all : Edits → Tree → Tree
put_all e t = edited t e

put_append : (ps qs : Edits) (t : Tree) → put_all (ps ++ qs) t ≡ put_all qs (put_all ps t)
put_append [] qs t = refl
put_append (p ∷ ps) qs t = put_append ps qs (set_at t p.path p.new)

-- places below one child
pub put_below : (ps : Edits) (t kid : Tree) (i : ℕ) → slice_get (children t) i ≡ Some kid
    → put_all (below i ps) t ≡ with_child t i (put_all ps kid)
put_below [] t kid i h = sym (with_child-same t i kid h)
put_below (p ∷ ps) t kid i h =
    let next = set_at kid p.path p.new in
    ap (put_all (below i ps)) (set_at-child t kid p.new i p.path h)
    ∙ put_below ps (with_child t i next) next i (child-with_child t i kid next h)
    ∙ with_child-with_child t i next (put_all ps next)

-- the same where there is no such child
set_no_child : (t u : Tree) (i : ℕ) (p : List ℕ) → length (children t) ≤ i → set_at t (i ∷ p) u ≡ t
set_no_child t u i p h = rw (slice_get_past (children t) i h) refl

put_no_child : (ps : Edits) (t : Tree) (i : ℕ) → length (children t) ≤ i → put_all (below i ps) t ≡ t
put_no_child [] t i h = refl
put_no_child (p ∷ ps) t i h = ap (put_all (below i ps)) (set_no_child t p.new i p.path h) ∙ put_no_child ps t i h

put_past : (cs : Changes) (t : Tree) (i : ℕ) → length (children t) ≤ i → put_all (places_from i cs) t ≡ t
put_past no_more t i h = refl
put_past (and_then c cs) t i h =
    put_append (below i (places c)) (places_from (i + 1) cs) t
    ∙ ap (put_all (places_from (i + 1) cs)) (put_no_child (places c) t i h)
    ∙ put_past cs t (i + 1) (omega (arith, h))

-- ---- one child after the other

pub get_seam : (us vs : List Tree) (v : Tree) → slice_get (us ++ v ∷ vs) (length us) ≡ Some v
get_seam [] vs v = refl
get_seam (u ∷ us) vs v = get_seam us vs v

pub set_seam : (us vs : List Tree) (v w : Tree) → slice_set (us ++ v ∷ vs) (length us) w ≡ us ++ w ∷ vs
set_seam [] vs v w = refl
set_seam (u ∷ us) vs v w = ap (λ l. u ∷ l) (set_seam us vs v w)

mutual
  pub put_places : (c : Change) (t : Tree) → put_all (places c) t ≡ changed c t
  put_places same t = refl
  put_places (inside cs) t = put_from cs t [] (children t) refl
  put_places (replaced u) t = refl

  put_from : (cs : Changes) (t : Tree) (us vs : List Tree)
      → children t ≡ us ++ vs → put_all (places_from (length us) cs) t ≡ with_children t (us ++ changed_all cs vs)
  put_from no_more t us vs e = sym (ap (with_children t) (sym e) ∙ same_children t)
  put_from (and_then c cs) t us [] e =
      put_past (and_then c cs) t (length us) (omega (arith, ap length e, length-append us []))
      ∙ sym (ap (with_children t) (sym e) ∙ same_children t)
  put_from (and_then c cs) t us (v ∷ vs) e =
      let i = length us in
      let w = changed c v in
      let next = with_child t i w in
      let kids : with_children t (us ++ w ∷ vs) ≡ next =
      ap (with_children t) (sym (ap (λ l. slice_set l i w) e ∙ set_seam us vs v w)) in
      let count : length (us ++ w ∷ vs) ≡ length (children t) =
      omega (arith, ap length e, length-append us (w ∷ vs), length-append us (v ∷ vs)) in
      let split : children next ≡ (us ++ w ∷ []) ++ vs = ap children (sym kids)
      ∙ children-with_children t (us ++ w ∷ vs) count ∙ sym (append_assoc us (w ∷ []) vs) in
      let index : i + 1 ≡ length (us ++ w ∷ []) = sym (length-append us (w ∷ [])) in
      put_append (below i (places c)) (places_from (i + 1) cs) t
      ∙ ap (put_all (places_from (i + 1) cs))
      (put_below (places c) t v i (ap (λ l. slice_get l i) e ∙ get_seam us vs v) ∙ ap (with_child t i) (put_places c v))
      ∙ ap (λ k. put_all (places_from k cs) next) index
      ∙ put_from cs next (us ++ w ∷ []) vs split
      ∙ with_children-with_children t (slice_set (children t) i w) ((us ++ w ∷ []) ++ changed_all cs vs)
      ∙ ap (with_children t) (append_assoc us (w ∷ []) (changed_all cs vs))

pub places_make_the_change : PlacesMakeTheChange
places_make_the_change = put_places
