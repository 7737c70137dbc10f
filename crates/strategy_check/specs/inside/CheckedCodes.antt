-- How the logic stores modules with their names, and checked modules: as their parts.
use Rattle.std.specs.Prelude.{ℕ, List, refl}
use Rattle.std.specs.Coded.{Coded, code_by, coded×, coded_ℕ, coded_list}
use Rattle.strategy_syntax.specs.Modules.{Module}
use Rattle.strategy_syntax.specs.inside.ModuleCodes.{module_code}
use Rattle.strategy_check.specs.Tables.{Modules}
use Rattle.strategy_check.specs.Programs.{Program}
use Rattle.strategy_check.specs.Checking.{Checked}
use Rattle.strategy_check.specs.inside.ProgramCodes.{program_code}

abbrev pub named_code : Coded (List ℕ × Module)
named_code = coded× (coded_list coded_ℕ) module_code

abbrev pub checked_code : Coded Checked
checked_code =
    code_by (Modules × Program) (coded× (coded_list named_code) program_code)
    (λ c. (c.modules, c.program))
    (λ p. record { modules = p.0; program = p.1 }) (λ _. refl)
