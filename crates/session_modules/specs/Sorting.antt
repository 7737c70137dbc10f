-- What modules declare with sorts, and the first declaration with which those before it don't agree.
use Rattle.std.specs.Prelude.{◌≡◌, ◌⊎◌, List, [], ◌∷◌, ◌++◌, length, flat_map}
use Rattle.term_sorts.specs.Sorts.{Declaration, Injection, Declared, AreDeclaredOnce, TakeNoneAlike, name_of, arguments_of}
use Rattle.strategy_check.specs.Tables.{Modules}
use Rattle.session_modules.specs.declared.sorting.SortFault.{SortFault}
use Rattle.session_modules.specs.declared.sorting.SortFault.TheVariants.{Clash}

-- what these modules declare, in their order
abbrev pub declared_in : Modules → Declared
declared_in ms = record {
  constructors = flat_map (λ m. m.1.declarations) ms;
  injections = flat_map (λ m. m.1.injections) ms;
}

-- The first element with which those before it don't agree.
pub record FirstAgainst {X : Type 0} (Agree : List X → Type 0) (xs : List X) (x : X) : Type 0 where
  pub before : List X
  pub after : List X
  pub is : xs ≡ before ++ x ∷ after
  pub agree : Agree before
  pub disagree : Agree (before ++ x ∷ []) → ⊥

-- The fault of declarations that don't agree. It has the first constructor that has another
-- declaration before; where there is none, the sort of the first injection by which some sort takes
-- two sorts of lists, or two of tuples of as many terms.
abbrev pub IsClash : Declared → SortFault → Type 0
IsClash D fault =
    ((d : Declaration) × FirstAgainst AreDeclaredOnce D.constructors d
    × (fault ≡ Clash d.name (length d.arguments)))
    ⊎ (AreDeclaredOnce D.constructors × ((i : Injection) × FirstAgainst TakeNoneAlike D.injections i
    × (fault ≡ Clash (name_of i.to) (length (arguments_of i.to)))))
