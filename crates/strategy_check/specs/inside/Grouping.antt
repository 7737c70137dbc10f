-- Definitions added to groups one by one.
use Rattle.std.specs.Prelude.{ℕ, zero, suc, List, [], ◌∷◌, ◌++◌, length, Some, None}
use Rattle.std.specs.declared.option.Option.{Option}
use Rattle.strategy_syntax.specs.Modules.{Definition}
use Rattle.strategy_check.specs.Tables.{Table, definition_number}

-- with one more in group i, if there is such a group
abbrev pub with_member : ℕ → Definition → List (List Definition) → List (List Definition)
with_member i d [] = []
with_member zero d (g ∷ gs) = (g ++ d ∷ []) ∷ gs
with_member (suc i) d (g ∷ gs) = g ∷ with_member i d gs

abbrev pub with_numbered : Option ℕ → Definition → List (List Definition) → List (List Definition)
with_numbered None d gs = gs
with_numbered (Some i) d gs = with_member i d gs

-- with one more in the group of its number
abbrev pub with_definition : Table → List (List Definition) → Definition → List (List Definition)
with_definition T gs d =
    with_numbered (definition_number T d.name (length d.strategy_parameters) (length d.term_parameters)) d gs

abbrev pub with_definitions : Table → List (List Definition) → List Definition → List (List Definition)
with_definitions T gs [] = gs
with_definitions T gs (d ∷ ds) = with_definitions T (with_definition T gs d) ds
