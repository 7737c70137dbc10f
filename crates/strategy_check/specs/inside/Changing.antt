-- When modules replace others: what other modules may notice. If they notice nothing, they stay
-- without fault.
use Rattle.std.specs.Prelude.{ℕ, Bool, not, ◌&&◌, List, [], ◌∷◌, map, unwrap_or}
use Rattle.std.specs.List.{list_any}
use Rattle.strategy_syntax.specs.Modules.{Constructor, Module}
use Rattle.strategy_syntax.specs.Lists.{is_among, with_new}
use Rattle.strategy_check.specs.Tables.{DefinitionKey, same_key, same_constructor, Table, definition_number, is_defined, Modules, keys_of, definitions_of, constructors_of, table_of}
use Rattle.strategy_check.specs.inside.Mentioned.{mentioned_in_bodies}

-- what the bodies of a module mention
abbrev pub mentioned : Module → Table
mentioned m = mentioned_in_bodies (record { definitions = []; constructors = [] }) m.definitions

-- the table of one module
abbrev pub own_table : List ℕ × Module → Table
own_table m = table_of (m ∷ [])

abbrev pub defines_key : DefinitionKey → List ℕ × Module → Bool
defines_key k m = is_among same_key k (own_table m).definitions

abbrev pub mentions_key : DefinitionKey → List ℕ × Module → Bool
mentions_key k m = is_among same_key k (mentioned m.1).definitions

abbrev pub mentions_constructor : Constructor → List ℕ × Module → Bool
mentions_constructor c m = is_among same_constructor c (mentioned m.1).constructors

-- ---- new modules define what a module that stays defines

abbrev pub is_again : Table → Modules → DefinitionKey → Bool
is_again T old k = is_among same_key k T.definitions && not (list_any (defines_key k) old)

abbrev pub defines_again : Table → Modules → Modules → Bool
defines_again T old new = list_any (λ m. list_any (is_again T old) (own_table m).definitions) new

-- ---- a definition without term parameters has the name of one of their constructors

abbrev pub is_clash : Table → Constructor → Bool
is_clash T c = is_defined T c.name c.arity 0

abbrev pub has_clash : Table → Modules → Bool
has_clash T new = list_any (λ m. list_any (is_clash T) m.1.constructors) new

-- ---- a definition or a constructor of the modules xs that isn't in T is mentioned by modules ms

abbrev pub is_missed : Table → Modules → DefinitionKey → Bool
is_missed T ms k = not (is_among same_key k T.definitions) && list_any (mentions_key k) ms

abbrev pub misses_definition : Table → Modules → Modules → Bool
misses_definition T ms xs = list_any (λ m. list_any (is_missed T ms) (own_table m).definitions) xs

abbrev pub is_missed_constructor : Table → Modules → Constructor → Bool
is_missed_constructor T ms c =
    not (is_among same_constructor c T.constructors) && list_any (mentions_constructor c) ms

abbrev pub misses_constructor : Table → Modules → Modules → Bool
misses_constructor T ms xs =
    list_any (λ m. list_any (is_missed_constructor T ms) (own_table m).constructors) xs

-- ---- for each definition of T, in order, its number in T', or 0 if it has none there

abbrev pub number_in : Table → DefinitionKey → ℕ
number_in T k = unwrap_or (definition_number T k.name k.strategies k.terms) 0

abbrev pub numbers_in : Table → Table → List ℕ
numbers_in T T' = map (number_in T') T.definitions

-- ---- a table with more modules

abbrev pub with_module : Table → Module → Table
with_module T m = record {
  definitions = with_new same_key T.definitions (keys_of m.definitions);
  constructors = with_new same_constructor T.constructors m.constructors;
}

abbrev pub with_all : Table → Modules → Table
with_all T ms = record {
  definitions = with_new same_key T.definitions (keys_of (definitions_of ms));
  constructors = with_new same_constructor T.constructors (constructors_of ms);
}
