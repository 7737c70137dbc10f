-- The definitions and declarations of all modules together.
use Rattle.std.specs.Prelude.{ℕ, Bool, ◌&&◌, ◌==◌, List, [], length, map, flat_map, position, is_some}
use Rattle.std.specs.declared.option.Option.{Option}
use Rattle.term_core.specs.Tree.{Symbol, same_name}
use Rattle.strategy_syntax.specs.Modules.{Constructor, Definition, Module}
use Rattle.strategy_syntax.specs.Lists.{is_among, first_ones}

-- The key of a definition: its name and its numbers of strategies and terms.
pub record DefinitionKey : Type 0 where
  pub name : Symbol
  pub strategies : ℕ
  pub terms : ℕ

abbrev pub same_key : DefinitionKey → DefinitionKey → Bool
same_key a b =
    same_name a.name b.name && (a.strategies == b.strategies && a.terms == b.terms)

abbrev pub same_constructor : Constructor → Constructor → Bool
same_constructor a b = same_name a.name b.name && a.arity == b.arity

-- Each key and each constructor once, at its first occurrence. The index of a key is the number of
-- its definition.
pub record Table : Type 0 where
  pub definitions : List DefinitionKey
  pub constructors : List Constructor

-- the number of the definition of f with these numbers of strategies and terms, if there is one
abbrev pub definition_number : Table → Symbol → ℕ → ℕ → Option ℕ
definition_number T f n m =
    position (same_key (record { name = f; strategies = n; terms = m })) T.definitions

abbrev pub is_defined : Table → Symbol → ℕ → ℕ → Bool
is_defined T f n m = is_some (definition_number T f n m)

-- whether the constructor f with this number of arguments is declared
abbrev pub is_declared : Table → Symbol → ℕ → Bool
is_declared T f n = is_among same_constructor (record { name = f; arity = n }) T.constructors

-- ---- of all modules

-- modules with their names, in the order of these
abbrev pub Modules : Type 0
Modules = List (List ℕ × Module)

abbrev pub key_of : Definition → DefinitionKey
key_of d = record {
  name = d.name;
  strategies = length d.strategy_parameters;
  terms = length d.term_parameters;
}

abbrev pub keys_of : List Definition → List DefinitionKey
keys_of ds = map key_of ds

abbrev pub definitions_of : Modules → List Definition
definitions_of ms = flat_map (λ m. m.1.definitions) ms

abbrev pub constructors_of : Modules → List Constructor
constructors_of ms = flat_map (λ m. m.1.constructors) ms

abbrev pub table_of : Modules → Table
table_of ms = record {
  definitions = first_ones same_key [] (keys_of (definitions_of ms));
  constructors = first_ones same_constructor [] (constructors_of ms);
}
