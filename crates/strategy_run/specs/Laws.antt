-- A law about the condition of applying.
use Rattle.std.specs.Prelude.{◌≡◌, ◌≤◌, ℕ, ◌+◌, List, length, Some}
use Rattle.term_core.specs.Tree.{Tree}
use Rattle.term_core.specs.Size.{height}
use Rattle.term_core.specs.declared.TheConstants.{MAX_HEIGHT}
use Rattle.term_paths.specs.Paths.{at}

-- In a tree that isn't too high, each subterm is low enough at its level, the length of its path.
abbrev pub SubtermsAreLowEnough : Type 0
SubtermsAreLowEnough = (p : List ℕ) (t u : Tree) → at t p ≡ Some u
    → height t ≤ MAX_HEIGHT → length p + height u ≤ MAX_HEIGHT
