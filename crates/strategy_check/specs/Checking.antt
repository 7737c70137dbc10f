-- Modules that have no fault, with their program.
use Rattle.std.specs.Prelude.{◌≡◌, ◌+◌, ℕ, [], ◌++◌, take, drop}
use Rattle.strategy_check.specs.Tables.{Modules}
use Rattle.strategy_check.specs.Faults.{Primitives, faults}
use Rattle.strategy_check.specs.Programs.{Program, program}
use Rattle.strategy_check.specs.Ranges.{BodiesInRange}

pub record Checked : Type 0 where
  pub modules : Modules
  pub program : Program

-- With these primitives the modules have no fault, and the program is theirs.
pub record IsChecked (P : Primitives) (c : Checked) : Type 0 where
  pub faultless : faults c.modules P ≡ []
  pub given : c.program ≡ program c.modules P
  pub in_range : BodiesInRange c.program P

-- the modules with others in the places of `gone` of them, from index i on
abbrev pub with_modules : ℕ → ℕ → Modules → Modules → Modules
with_modules i gone new ms = take i ms ++ (new ++ drop (i + gone) ms)
