-- Edits: subterms that are replaced one after the other, each at its path.
use Rattle.std.specs.Prelude.{◌≡◌, ℕ, suc, Bool, true, false, if◌then◌else◌, ◌==◌, List, [], ◌∷◌, ◌++◌, map, IsSome}
use Rattle.term_core.specs.Tree.{Tree, Trees, integer, branch, none, more}
use Rattle.term_paths.specs.Paths.{at, set_at}

-- the path of a subterm, and its replacement
pub record Edit : Type 0 where
  pub path : List ℕ
  pub new : Tree

-- the first one first
abbrev pub Edits : Type 0
Edits = List Edit

abbrev pub paths : Edits → List (List ℕ)
paths e = map (λ x. x.path) e

-- the edits of the subterm at a path, as seen from the root
abbrev pub prefixed : List ℕ → Edits → Edits
prefixed p e = map (λ x. record { path = p ++ x.path; new = x.new }) e

-- the tree after the edits
abbrev pub edited : Tree → Edits → Tree
edited t [] = t
edited t (x ∷ e) = edited (set_at t x.path x.new) e

-- The second tree is the first one after the edits, and each path leads to a subterm when its turn
-- comes.
abbrev pub Replaces : Edits → Tree → Tree → Type 0
Replaces [] t u = t ≡ u
Replaces (x ∷ e) t u = IsSome (at t x.path) × Replaces e (set_at t x.path x.new) u

-- ---- the outermost of some paths

abbrev pub has_root : List (List ℕ) → Bool
has_root [] = false
has_root ([] ∷ ps) = true
has_root ((i ∷ p) ∷ ps) = has_root ps

-- those that go through child i, as seen from there
abbrev pub through : ℕ → List (List ℕ) → List (List ℕ)
through i [] = []
through i ([] ∷ ps) = through i ps
through i ((j ∷ p) ∷ ps) = if j == i then (p ∷ through i ps) else (through i ps)

abbrev pub kids_of : Tree → Trees
kids_of (integer z notes) = none
kids_of (branch head kids notes) = kids

-- The first tree with the second one's subterms at the outermost of the paths. Nothing else of the
-- second tree is used.
abbrev mutual
  pub with_outermost : List (List ℕ) → Tree → Tree → Tree
  with_outermost ps (integer z notes) u = if has_root ps then u else (integer z notes)
  with_outermost ps (branch head kids notes) u =
      if has_root ps then u else (branch head (all_with_outermost ps 0 kids (kids_of u)) notes)

  -- the same for the children from number i on
  pub all_with_outermost : List (List ℕ) → ℕ → Trees → Trees → Trees
  all_with_outermost ps i none us = none
  all_with_outermost ps i (more t ts) none = more t ts
  all_with_outermost ps i (more t ts) (more u us) =
      more (with_outermost (through i ps) t u) (all_with_outermost ps (suc i) ts us)
