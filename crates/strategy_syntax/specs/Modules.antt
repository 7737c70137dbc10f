-- Modules of the strategy language, as contracts see them.
use Rattle.std.specs.Prelude.{ℕ, List}
use Rattle.term_core.specs.Tree.{Symbol}
use Rattle.term_sorts.specs.Sorts.{Declaration, Injection}
use Rattle.strategy_syntax.specs.Syntax.{Strategy}

-- A constructor that a signature declares, with the number of its arguments.
pub record Constructor : Type 0 where
  pub name : Symbol
  pub arity : ℕ

-- A definition `f(s1,..,sn|x1,..,xm) = s`.
pub record Definition : Type 0 where
  pub name : Symbol
  pub strategy_parameters : List Symbol
  pub term_parameters : List Symbol
  pub body : Strategy

-- The declarations and definitions of a module, in the order of its text. Two definitions may have
-- the same name and numbers of parameters.
pub record Module : Type 0 where
  pub constructors : List Constructor
  pub declarations : List Declaration  -- the same constructors, with sorts
  pub injections : List Injection
  pub definitions : List Definition
