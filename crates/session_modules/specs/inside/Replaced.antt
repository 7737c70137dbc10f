-- Checked modules among which one is replaced.
use Rattle.std.specs.Prelude.{◌≡◌, ℕ, List, [], ◌∷◌, ◌++◌, Some, None, Ok}
use Rattle.std.specs.declared.option.Option.{Option}
use Rattle.std.specs.FinMap.Entries.{by_order}
use Rattle.std.specs.Ordering.{nat_cmp}
use Rattle.std.specs.Cmp.Lexicographic.{slice_cmp}
use Rattle.strategy_syntax.specs.Modules.{Module}
use Rattle.strategy_check.specs.Tables.{Modules}
use Rattle.session_modules.specs.Modules.{ReadsAsModule}

-- the modules, in the order of their names, with new ones in the place of this name
abbrev pub with_module : List ℕ → Modules → Modules → Modules
with_module name new [] = new
with_module name new (m ∷ ms) =
    by_order (slice_cmp nat_cmp name m.0) (new ++ m ∷ ms) (new ++ ms) (m ∷ with_module name new ms)

-- the module that a text gives, with its name; none without a text
abbrev pub AreGiven : List ℕ → Option (List ℕ) → Modules → Type 0
AreGiven name None ms = ms ≡ []
AreGiven name (Some text) ms = (m : Module) × ReadsAsModule text (Ok m) × (ms ≡ (name, m) ∷ [])
