-- The outermost places of edits.
use Rattle.std.specs.Prelude.{◌≡◌, ◌<◌, ◌⊎◌, ℕ, List, [], ◌∷◌}
use Rattle.term_paths.specs.Paths.{LiesWithin}
use Rattle.term_paths.specs.Edits.{Edits}

-- the path of one of the edits
abbrev pub IsOf : List ℕ → Edits → Type 0
IsOf x [] = ⊥
IsOf x (y ∷ e) = (y.path ≡ x) ⊎ IsOf x e

-- Where the two paths part, the first goes to an earlier child. So neither lies within the other.
abbrev pub IsBefore : List ℕ → List ℕ → Type 0
IsBefore [] q = ⊥
IsBefore (i ∷ p) [] = ⊥
IsBefore (i ∷ p) (j ∷ q) = (i < j) ⊎ ((i ≡ j) × IsBefore p q)

abbrev pub IsBeforeAll : List ℕ → Edits → Type 0
IsBeforeAll p [] = Unit {0}
IsBeforeAll p (x ∷ e) = IsBefore p x.path × IsBeforeAll p e

-- each place is before all places that follow
abbrev pub AreInOrder : Edits → Type 0
AreInOrder [] = Unit {0}
AreInOrder (x ∷ e) = IsBeforeAll x.path e × AreInOrder e

-- The places of ps are the outermost ones of the edits, each once, in their order in the tree.
pub record AreOutermost (ps e : Edits) : Type 0 where
  pub order : AreInOrder ps
  pub among : (x : List ℕ) → IsOf x ps → IsOf x e
  pub covers : (x : List ℕ) → IsOf x e → (y : List ℕ) × IsOf y ps × LiesWithin x y
