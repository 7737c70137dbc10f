-- What cells hold.
use Rattle.std.specs.Prelude.{ℕ, List}
use Rattle.strategy_meaning.specs.Matching.{Bindings}

-- the term in each cell, and which cells were filled, the oldest first
pub record CellContents : Type 0 where
  pub bindings : Bindings
  pub filled : List ℕ
