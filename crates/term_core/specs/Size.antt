-- The height and the size of a term, and where it fits.
use Rattle.std.specs.Prelude.{ℕ, Bool, ◌+◌, ◌&&◌, nat_le, max}
use Rattle.std.proofs.Common.{suc}
use Rattle.term_core.specs.Tree.{Tree, Trees, integer, branch, none, more}
use Rattle.term_core.specs.declared.TheConstants.{MAX_HEIGHT}

-- A term without children and annotations has height 1, any other 1 more than the highest of them.
abbrev mutual
  pub height : Tree → ℕ
  height (integer z notes) = suc (heights notes)
  height (branch head kids notes) = suc (max (heights kids) (heights notes))

  pub heights : Trees → ℕ
  heights none = 0
  heights (more t ts) = max (height t) (heights ts)

-- The size is 1 more than the sum of the sizes of children and annotations.
abbrev mutual
  pub size : Tree → ℕ
  size (integer z notes) = suc (sizes notes)
  size (branch head kids notes) = suc (sizes kids + sizes notes)

  pub sizes : Trees → ℕ
  sizes none = 0
  sizes (more t ts) = size t + sizes ts

-- A term fits at a level, the number of terms above it, if it is neither too high there nor larger
-- than the room.
abbrev pub fits : ℕ → ℕ → Tree → Bool
fits room level t = nat_le (level + height t) MAX_HEIGHT && nat_le (size t) room
