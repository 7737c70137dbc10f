-- Cells that are filled.
use Rattle.std.specs.Prelude.{◌≡◌, ℕ, List, ◌++◌, length}
use Rattle.term_match.specs.CellContents.{CellContents}
use Rattle.term_match.specs.Marks.{mark_of, Stays}

-- Some of the empty cells are filled.
pub record Grows (old new : CellContents) : Type 0 where
  pub count : length new.bindings ≡ length old.bindings
  pub more : List ℕ
  pub filled : new.filled ≡ old.filled ++ more
  pub stays : Stays (mark_of old) old new
