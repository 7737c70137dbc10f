-- Signatures, as contracts see them.
use Rattle.std.specs.Prelude.{List, [], ◌∷◌, ◌++◌, slice_get, option_and_then}
use Rattle.std.specs.declared.option.Option.{Option}
use Rattle.term_sorts.specs.Sorts.{Sort, Declaration, Injection, Declared}
use Rattle.term_sorts.specs.declared.wanted.Wanted.{Wanted}

-- What is declared, and the sorts that this names, by their numbers.
pub record Signature : Type 0 where
  pub declared : Declared
  pub sorts : List Sort

-- the sort that is wanted, or none
abbrev pub wanted_sort : List Sort → Wanted → Option Sort
wanted_sort sorts w = option_and_then (λ n. slice_get sorts n) w.number

abbrev pub nothing_declared : Declared
nothing_declared = record { constructors = []; injections = [] }

abbrev pub and_constructor : Declared → Declaration → Declared
and_constructor D d = record { constructors = D.constructors ++ d ∷ []; injections = D.injections }

abbrev pub and_injection : Declared → Injection → Declared
and_injection D i = record { constructors = D.constructors; injections = D.injections ++ i ∷ [] }
