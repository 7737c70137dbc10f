-- Budgets of evaluations.
use Rattle.std.specs.Prelude.{◌≤◌, ℕ}

-- the steps that an evaluation may take: from 1 to the greatest budget
abbrev pub IsBudget : ℕ → ℕ → Type 0
IsBudget most n = (1 ≤ n) × (n ≤ most)
