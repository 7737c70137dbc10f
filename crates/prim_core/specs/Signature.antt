-- How a primitive is looked up.
use Rattle.std.specs.Prelude.{ℕ, Bool, ◌==◌, ◌&&◌, List, position}
use Rattle.std.specs.declared.option.Option.{Option}
use Rattle.std.specs.Str.{bytes_eq}

-- its name and the number of its arguments
pub record Signature : Type 0 where
  pub name : List ℕ
  pub arity : ℕ

abbrev pub has_signature : List ℕ → ℕ → Signature → Bool
has_signature name arity s = s.arity == arity && bytes_eq s.name name

-- the index of the first one with this name and arity, if there is one
abbrev pub index_of : List ℕ → ℕ → List Signature → Option ℕ
index_of name arity signatures = position (has_signature name arity) signatures
