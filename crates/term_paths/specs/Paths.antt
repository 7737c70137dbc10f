-- Paths: the list of the child numbers, counted from 0, that lead from the root of a tree to one of
-- its subterms. No path leads into annotations.
use Rattle.std.specs.Prelude.{◌≡◌, ℕ, Bool, List, [], ◌∷◌, ◌++◌, Some, is_some, option_map, option_and_then}
use Rattle.std.specs.declared.option.Option.{Option}
use Rattle.std.specs.List.{slice_get}
use Rattle.std.specs.Option.{option_map_or}
use Rattle.term_core.specs.Tree.{Tree, children, annotations, with_child, with_annotations}

-- the subterm at the path, if there is one
abbrev pub at : Tree → List ℕ → Option Tree
at t [] = Some t
at t (i ∷ p) = option_and_then (λ kid. at kid p) (slice_get (children t) i)

-- the annotations of that subterm
abbrev pub annotations_at : Tree → List ℕ → Option (List Tree)
annotations_at t p = option_map annotations (at t p)

-- whether the path leads to a subterm
abbrev pub leads : Tree → List ℕ → Bool
leads t p = is_some (at t p)

-- the tree with u in place of the subterm at the path; unchanged if there is none
abbrev pub set_at : Tree → List ℕ → Tree → Tree
set_at t [] u = u
set_at t (i ∷ p) u =
    option_map_or (λ kid. with_child t i (set_at kid p u)) (slice_get (children t) i) t

-- the tree with these annotations on the subterm at the path; unchanged if there is none
abbrev pub set_annotations_at : Tree → List ℕ → List Tree → Tree
set_annotations_at t [] notes = with_annotations t notes
set_annotations_at t (i ∷ p) notes =
    option_map_or (λ kid. with_child t i (set_annotations_at kid p notes))
    (slice_get (children t) i) t

-- the tree after replacing the subterm at the path, if there is one, by a term that P relates to it
abbrev pub ChangesAt : (Tree → Tree → Type 0) → Tree → List ℕ → Tree → Type 0
ChangesAt P t p after =
    (old : Tree) × (new : Tree) × (at t p ≡ Some old) × P old new × (after ≡ set_at t p new)

-- A path lies within another if that is a prefix of it: it leads to the same subterm or to one
-- below.
abbrev pub LiesWithin : List ℕ → List ℕ → Type 0
LiesWithin inner outer = (rest : List ℕ) × (inner ≡ outer ++ rest)
