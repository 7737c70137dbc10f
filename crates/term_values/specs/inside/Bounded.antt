-- Upper bounds of size and height.
use Rattle.std.specs.Prelude.{◌≡◌, ℕ, ◌≤◌, ◌^◌, ◌-◌, min, true, List, [], ◌∷◌}
use Rattle.term_core.specs.Tree.{Tree, of_list}
use Rattle.term_core.specs.Size.{height, heights, size, sizes}
use Rattle.term_values.specs.declared.bounds.Bounds.{Bounds}

-- The size s and the height h are at most the bounds, where the greatest numbers mean no bound;
-- exact bounds are s and h, or the greatest numbers.
pub record Covers (s h : ℕ) (b : Bounds) : Type 0 where
  pub size : min s (2 ^ 32 - 1) ≤ b.size
  pub height : min h (2 ^ 16 - 1) ≤ b.height
  pub exact : b.exact ≡ true → (min s (2 ^ 32 - 1) ≡ b.size) × (min h (2 ^ 16 - 1) ≡ b.height)

abbrev pub Bounded : Tree → Bounds → Type 0
Bounded t b = Covers (size t) (height t) b

-- the same for a list of trees: all sizes together, and the greatest height
abbrev pub AllBounded : List Tree → Bounds → Type 0
AllBounded us b = Covers (sizes (of_list us)) (heights (of_list us)) b

-- the same for each tree alone
abbrev pub AllWithin : List Tree → Bounds → Type 0
AllWithin [] b = Unit {0}
AllWithin (u ∷ us) b = Bounded u b × AllWithin us b

-- the exact size and height, as far as the number types reach
abbrev pub Measures : Tree → Bounds → Type 0
Measures t b = Bounded t b × (b.exact ≡ true)

abbrev pub MeasuresAll : List Tree → Bounds → Type 0
MeasuresAll us b = AllBounded us b × (b.exact ≡ true)
