-- What a run replaced in a tree. A change mentions no tree: it can be made in any.
use Rattle.std.specs.Prelude.{ℕ, ◌+◌, List, [], ◌∷◌, ◌++◌, map}
use Rattle.term_core.specs.Tree.{Tree, children, with_children}
use Rattle.term_paths.specs.Edits.{Edits}

mutual
  pub data Change : Type 0 where
    same : Change  -- nothing was replaced
    inside : Changes → Change  -- the changes of the children, the first child first
    replaced : Tree → Change  -- the whole tree was replaced

  pub data Changes : Type 0 where
    no_more : Changes
    and_then : Change → Changes → Changes

abbrev mutual
  -- the tree after the change
  pub changed : Change → Tree → Tree
  changed same t = t
  changed (inside cs) t = with_children t (changed_all cs (children t))
  changed (replaced u) t = u

  pub changed_all : Changes → List Tree → List Tree
  changed_all no_more us = us
  changed_all (and_then c cs) [] = []
  changed_all (and_then c cs) (u ∷ us) = changed c u ∷ changed_all cs us

-- edits of child i, seen from its parent
abbrev pub below : ℕ → Edits → Edits
below i e = map (λ x. record { path = i ∷ x.path; new = x.new }) e

abbrev mutual
  -- the outermost places that were replaced, each with its new subterm
  pub places : Change → Edits
  places same = []
  places (inside cs) = places_from 0 cs
  places (replaced u) = record { path = []; new = u } ∷ []

  pub places_from : ℕ → Changes → Edits
  places_from i no_more = []
  places_from i (and_then c cs) = below i (places c) ++ places_from (i + 1) cs
