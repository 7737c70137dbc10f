-- The binders around a part of a strategy: parameters, free variables, scopes and `rec`.
use Rattle.std.specs.Prelude.{ℕ, ◌+◌, List, [], ◌∷◌, ◌++◌, Some, None, if◌then◌else◌}
use Rattle.std.specs.declared.option.Option.{Option}
use Rattle.term_core.specs.Tree.{Symbol, same_name}

-- a name with the number of its binder
pub record Binder : Type 0 where
  pub name : Symbol
  pub number : ℕ

-- The number that a name stands for, if it has a binder. The innermost binder comes first, and
-- counts.
abbrev pub binder_number : Symbol → List Binder → Option ℕ
binder_number x [] = None
binder_number x (b ∷ bs) = if same_name b.name x then Some b.number else binder_number x bs

-- the binders with further ones inside, numbered from n on
abbrev pub bound_from : ℕ → List Symbol → List Binder → List Binder
bound_from n [] bs = bs
bound_from n (x ∷ xs) bs = bound_from (n + 1) xs (record { name = x; number = n } ∷ bs)

-- the names of binders, the outermost first
abbrev pub names_of : List Binder → List Symbol
names_of [] = []
names_of (b ∷ bs) = names_of bs ++ b.name ∷ []
