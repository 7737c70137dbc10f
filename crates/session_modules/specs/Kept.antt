-- Checked modules that a session keeps, with the texts that they were read from.
use Rattle.std.specs.Prelude.{ℕ, List, [], ◌∷◌, Ok, IfSome, IsSomeAnd, option_map}
use Rattle.std.specs.declared.option.Option.{Option}
use Rattle.std.specs.Bool.{OnFalse}
use Rattle.strategy_check.specs.Tables.{Modules}
use Rattle.strategy_check.specs.Faults.{Primitives}
use Rattle.strategy_check.specs.Programs.{Program}
use Rattle.strategy_check.specs.Checking.{IsChecked}
use Rattle.session_modules.specs.Modules.{Texts, ReadsAsModule, AreModules}
use Rattle.session_modules.specs.declared.cache.ModuleCache.{ModuleCache}
use Rattle.session_modules.specs.declared.checked.CheckedTexts.{CheckedTexts}

-- These texts are read as these modules, in order.
abbrev pub AreReadFrom : List (List ℕ) → Modules → Type 0
AreReadFrom [] [] = Unit {0}
AreReadFrom (text ∷ texts) (m ∷ ms) = ReadsAsModule text (Ok m.1) × AreReadFrom texts ms
AreReadFrom [] (m ∷ ms) = ⊥
AreReadFrom (text ∷ texts) [] = ⊥

-- Checked modules belong to their texts, and were checked with these primitives.
pub record Belong (primitives : Primitives) (c : CheckedTexts) : Type 0 where
  pub checked : IsChecked primitives c.checked
  pub read : AreReadFrom c.texts.items c.checked.modules

-- Modules are kept, checked, and are those of these texts.
pub record AreCurrent (primitives : Primitives) (texts : Texts) (c : CheckedTexts) : Type 0 where
  pub belong : Belong primitives c
  pub are : AreModules texts c.checked.modules

abbrev pub IsCurrent : Primitives → Texts → ModuleCache → Type 0
IsCurrent primitives texts cache = IsSomeAnd cache.kept (AreCurrent primitives texts)

-- The modules that are kept belong to their texts. They are those of these texts, unless they are
-- stale.
pub record IsKept (primitives : Primitives) (texts : Texts) (cache : ModuleCache) : Type 0 where
  pub belong : IfSome cache.kept (Belong primitives)
  pub current : OnFalse cache.is_stale (IsCurrent primitives texts cache)

-- the program of the modules that are kept
abbrev pub program_in : ModuleCache → Option Program
program_in cache = option_map (λ c. c.checked.program) cache.kept
