-- The state of a variable's cell, compared with the term to be matched.
use Rattle.std.specs.Prelude.{◌≡◌, ℕ, List, cond, slice_get, slice_set, Some, None}
use Rattle.term_core.specs.Tree.{Tree}
use Rattle.strategy_meaning.specs.Matching.{Bindings, bind}
use Rattle.term_match.specs.declared.matching.Said.{Said}
use Rattle.term_match.specs.declared.matching.Said.TheVariants.{Empty, Same}

-- An empty cell takes the term; a missing cell matches no term.
abbrev pub Says : List ℕ → ℕ → Tree → Bindings → Said → Type 0
Says E x t B (Empty i) = (slice_get B i ≡ Some None) × (bind E x t B ≡ Some (slice_set B i (Some t)))
Says E x t B (Same same) = bind E x t B ≡ cond same (Some B) None
