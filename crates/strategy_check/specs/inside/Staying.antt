-- Modules are replaced, and no module has a fault.
use Rattle.std.specs.Prelude.{◌≡◌, ◌+◌, ◌++◌, ◌||◌, ℕ, Bool, false, List, [], ◌∷◌, length, map, take, drop}
use Rattle.strategy_syntax.specs.declared.resolved.Resolved.{Resolved}
use Rattle.strategy_check.specs.Tables.{Table, Modules, table_of, definitions_of}
use Rattle.strategy_check.specs.Faults.{Primitives, faults_from}
use Rattle.strategy_check.specs.Programs.{Program, groups, joined_definition}
use Rattle.strategy_check.specs.inside.Changing.{own_table, defines_again, has_clash, misses_definition, misses_constructor, numbers_in}
use Rattle.strategy_check.specs.inside.Replacing.{renumbered_definition}

-- From a table T to a table T', modules that stay mention a definition or a constructor that comes
-- or goes.
abbrev pub is_noticed : Table → Table → Modules → Modules → Modules → Bool
is_noticed T T' kept old new =
    misses_definition T' kept old || (misses_constructor T' kept old || misses_definition T kept new)

-- New modules stand between the first and the last in place of old ones, and no module notices: the
-- tables before and after are T and T'.
pub record StaysFaultless (P : Primitives) (T : Table) (T' : Table) (first : Modules) (old : Modules) (new : Modules)
    (last : Modules) : Type 0 where
  pub again : defines_again T old new ≡ false
  pub clash : has_clash T' new ≡ false
  pub by_first : is_noticed T T' first old new ≡ false
  pub by_last : is_noticed T T' last old new ≡ false
  pub alone : faults_from T' P [] new ≡ []

-- the number of definitions of each module, added up
abbrev pub own_count : Modules → ℕ
own_count [] = 0
own_count (m ∷ ms) = length (own_table m).definitions + own_count ms

-- the bodies of modules among themselves, for a table
abbrev pub joined_bodies : Table → Primitives → Modules → List Resolved
joined_bodies T P ms = map (joined_definition T P) (groups (table_of ms) (definitions_of ms))

-- the program with table T' and with the bodies of new modules in the places of `gone` bodies
abbrev pub with_bodies : Table → Primitives → ℕ → ℕ → Modules → Program → Program
with_bodies T' P i gone new p = record {
  table = T';
  bodies = map (renumbered_definition (numbers_in p.table T')) (take i p.bodies)
      ++ (joined_bodies T' P new ++ map (renumbered_definition (numbers_in p.table T')) (drop (i + gone) p.bodies));
}
