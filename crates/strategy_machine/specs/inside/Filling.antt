-- Filling in parts.
use Rattle.std.specs.Prelude.{◌≡◌, ◌≤◌, ◌⊎◌, ℕ, List, ◌++◌, length, drop}
use Rattle.term_changes.specs.Standing.{Standing}

-- cs with qs in place of its first elements
abbrev pub over : List Standing → List Standing → List Standing
over qs cs = qs ++ drop (length qs) cs

-- qs, continued with elements of cs up to the first n
pub record Fills (cs qs : List Standing) (n : ℕ) (new : List Standing) : Type 0 where
  pub same : over new cs ≡ over qs cs
  pub most : length qs ≤ n → length new ≤ n
  pub least : (n ≤ length new) ⊎ (length cs ≤ length new)
