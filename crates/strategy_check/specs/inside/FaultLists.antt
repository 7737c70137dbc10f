-- Lists of faults with room for so many more.
use Rattle.std.specs.Prelude.{ℕ, ◌-◌, ◌&&◌, ◌==◌, List, ◌++◌, length, map, take}
use Rattle.term_core.specs.Tree.{Symbol, same_name}
use Rattle.strategy_syntax.specs.Lists.{is_among, repeated}
use Rattle.strategy_syntax.specs.Modules.{Definition}
use Rattle.strategy_check.specs.declared.fault.FaultKind.TheVariants.{Parameter, Twice, Clash}
use Rattle.strategy_check.specs.Tables.{DefinitionKey, Table, is_declared, key_of, same_key}
use Rattle.strategy_check.specs.Faults.{Fault, fault_if}

pub record FaultList : Type 0 where
  pub items : List Fault
  pub room : ℕ

-- the list with these faults after its own, as far as there is room
unfoldable pub with_faults : FaultList → List Fault → FaultList
with_faults l fs = record { items = l.items ++ take l.room fs; room = l.room - length fs }

-- the names that are repeated, or among those seen before
abbrev pub repeated_faults : List Symbol → List Symbol → List Fault
repeated_faults seen xs =
    map (λ x. record { kind = Parameter; name = x; first = 0; second = 0 }) (repeated same_name seen xs)

-- the faults of a header but for its parameters
abbrev pub twice_faults : List DefinitionKey → Definition → List Fault
twice_faults earlier d =
    fault_if (is_among same_key (key_of d) earlier) Twice d.name
    (length d.strategy_parameters) (length d.term_parameters)

abbrev pub clash_faults : Table → Definition → List Fault
clash_faults T d =
    let n = length d.strategy_parameters in
    fault_if ((length d.term_parameters == 0) && is_declared T d.name n) Clash d.name n 0
