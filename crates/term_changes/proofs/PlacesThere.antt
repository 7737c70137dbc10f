-- The places of a change exist in the trees that have them.
use Rattle.std.proofs.Common.{◌≡◌, ℕ, ◌+◌, List, [], ◌∷◌, ◌++◌, length, slice_get, Some, IsSome, refl, sym, ap, subst, ◌∙◌, arith, append_assoc, length-append}
use Rattle.std.specs.Prelude.{slice_set}
use Rattle.term_core.specs.Tree.{Tree, children, with_children, with_child}
use Rattle.term_paths.specs.Paths.{at, set_at}
use Rattle.term_paths.proofs.PathLemmas.{at-child, set_at-child, child-with_child}
use Rattle.term_paths.specs.Edits.{Edits}
use Rattle.term_changes.specs.Change.{Change, same, inside, replaced, Changes, no_more, and_then, changed, below, places, places_from}
use Rattle.term_changes.specs.Putting.{HasPlaces, HaveAllPlaces}
use Rattle.term_changes.proofs.NodeLemmas.{children-with_children}
use Rattle.term_changes.proofs.PlacesMade.{put_all, put_below, put_places, get_seam, set_seam}

-- each place exists when its turn comes
abbrev pub AllThere : Edits → Tree → Type 0
AllThere [] t = Unit {0}
AllThere (p ∷ ps) t = IsSome (at t p.path) × AllThere ps (set_at t p.path p.new)

there_append : (ps qs : Edits) (t : Tree) → AllThere ps t → AllThere qs (put_all ps t) → AllThere (ps ++ qs) t
there_append [] qs t h g = g
there_append (p ∷ ps) qs t h g = (h.0, there_append ps qs (set_at t p.path p.new) h.1 g)

there_below : (ps : Edits) (t kid : Tree) (i : ℕ) → slice_get (children t) i ≡ Some kid → AllThere ps kid
    → AllThere (below i ps) t
there_below [] t kid i e h = tt
there_below (p ∷ ps) t kid i e h =
    let next = set_at kid p.path p.new in (
      subst (λ o. IsSome o) (sym (at-child t kid i p.path e)) h.0,
      subst (λ x. AllThere (below i ps) x) (sym (set_at-child t kid p.new i p.path e))
          (there_below ps (with_child t i next) next i (child-with_child t i kid next e) h.1),
    )

mutual
  pub all_there : (c : Change) (t : Tree) → HasPlaces t c → AllThere (places c) t
  all_there same t h = tt
  all_there (inside cs) t h = there_from cs t [] (children t) refl h
  all_there (replaced u) t h = (refl, tt)

  there_from : (cs : Changes) (t : Tree) (us vs : List Tree) → children t ≡ us ++ vs → HaveAllPlaces vs cs
      → AllThere (places_from (length us) cs) t
  there_from no_more t us vs e h = tt
  there_from (and_then c cs) t us [] e h = absurd h
  there_from (and_then c cs) t us (v ∷ vs) e h =
      let i = length us in
      let w = changed c v in
      let next = with_child t i w in
      let kid = ap (λ l. slice_get l i) e ∙ get_seam us vs v in
      let kids : with_children t (us ++ w ∷ vs) ≡ next =
      ap (with_children t) (sym (ap (λ l. slice_set l i w) e ∙ set_seam us vs v w)) in
      let count : length (us ++ w ∷ vs) ≡ length (children t) =
      omega (arith, ap length e, length-append us (w ∷ vs), length-append us (v ∷ vs)) in
      let split : children next ≡ (us ++ w ∷ []) ++ vs = ap children (sym kids)
      ∙ children-with_children t (us ++ w ∷ vs) count ∙ sym (append_assoc us (w ∷ []) vs) in
      let index : i + 1 ≡ length (us ++ w ∷ []) = sym (length-append us (w ∷ [])) in
      let made : put_all (below i (places c)) t ≡ next = put_below (places c) t v i kid
      ∙ ap (with_child t i) (put_places c v) in
      there_append (below i (places c)) (places_from (i + 1) cs) t
      (there_below (places c) t v i kid (all_there c v h.0))
      (subst (λ x. AllThere (places_from (i + 1) cs) x) (sym made)
      (subst (λ k. AllThere (places_from k cs) next) (sym index)
      (there_from cs next (us ++ w ∷ []) vs split h.1)))
