-- How the logic stores programs: as their fields.
use Rattle.std.specs.Prelude.{ℕ, List, refl}
use Rattle.std.specs.Coded.{Coded, code_by, coded×, coded_ℕ, coded_list}
use Rattle.strategy_syntax.specs.Modules.{Constructor}
use Rattle.strategy_syntax.specs.inside.ModuleCodes.{constructor_code}
use Rattle.strategy_syntax.specs.Resolved.{ResolvedStrategy}
use Rattle.strategy_syntax.specs.inside.ResolvedCodes.{resolved_code}
use Rattle.strategy_syntax.specs.declared.resolved.Resolved.{Resolved}
use Rattle.strategy_check.specs.Tables.{DefinitionKey, Table}
use Rattle.strategy_check.specs.inside.TableCodes.{key_code}
use Rattle.strategy_check.specs.Programs.{Program}

abbrev pub table_code : Coded Table
table_code =
    code_by (List DefinitionKey × List Constructor)
    (coded× (coded_list key_code) (coded_list constructor_code))
    (λ t. (t.definitions, t.constructors))
    (λ p. record { definitions = p.0; constructors = p.1 }) (λ _. refl)

abbrev pub whole_code : Coded Resolved
whole_code =
    code_by (ℕ × ResolvedStrategy) (coded× coded_ℕ resolved_code)
    (λ r. (r.variables, r.strategy))
    (λ p. record { variables = p.0; strategy = p.1 }) (λ _. refl)

abbrev pub program_code : Coded Program
program_code =
    code_by (Table × List Resolved) (coded× table_code (coded_list whole_code))
    (λ p. (p.table, p.bodies))
    (λ p. record { table = p.0; bodies = p.1 }) (λ _. refl)
