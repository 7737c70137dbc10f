-- A program some of whose modules are replaced by others.
use Rattle.std.specs.Prelude.{ℕ, List, [], ◌∷◌, length, ⊤}
use Rattle.strategy_syntax.specs.Renumbering.{renumbered}
use Rattle.strategy_syntax.specs.declared.resolved.Resolved.{Resolved}
use Rattle.strategy_check.specs.Tables.{Table, Modules, table_of}
use Rattle.strategy_check.specs.inside.Mentions.{BodiesCovered, Renumbers}

-- a definition with other numbers for those that it calls
abbrev pub renumbered_definition : List ℕ → Resolved → Resolved
renumbered_definition numbers r = record r { strategy = renumbered numbers r.strategy }

-- the number of definitions in modules
abbrev pub definition_count : Modules → ℕ
definition_count ms = length (table_of ms).definitions

-- In each module what is mentioned has the number in T' that the list gives for its number in T.
abbrev pub AllRenumbered : List ℕ → Table → Table → Modules → Type 0
AllRenumbered numbers T T' [] = ⊤
AllRenumbered numbers T T' (m ∷ ms) =
    ((M : Table) × BodiesCovered M m.1.definitions × Renumbers M numbers T T') × AllRenumbered numbers T T' ms
