-- Declarations that are added to others one after another, as long as all agree.
use Rattle.std.specs.Prelude.{◌≡◌, List, [], ◌∷◌, ◌++◌, length, flat_map}
use Rattle.term_sorts.specs.Sorts.{Declaration, Injection, Declared, AreDeclaredOnce, TakeNoneAlike, name_of, arguments_of}
use Rattle.strategy_check.specs.Tables.{Modules}
use Rattle.session_modules.specs.declared.sorting.SortFault.{SortFault}
use Rattle.session_modules.specs.declared.sorting.SortFault.TheVariants.{Clash}

-- the constructors of some modules, and the injections of others
abbrev pub declared_by : Modules → Modules → Declared
declared_by ms ns = record {
  constructors = flat_map (λ m. m.1.declarations) ms;
  injections = flat_map (λ n. n.1.injections) ns;
}

abbrev pub and_constructors : Declared → List Declaration → Declared
and_constructors D ds = record { constructors = D.constructors ++ ds; injections = D.injections }

abbrev pub and_injections : Declared → List Injection → Declared
and_injections D is = record { constructors = D.constructors; injections = D.injections ++ is }

-- The first of these with which the old ones and those before it don't agree.
pub record AgainstAfter {X : Type 0} (Agree : List X → Type 0) (old xs : List X) (x : X) : Type 0 where
  pub before : List X
  pub after : List X
  pub is : xs ≡ before ++ x ∷ after
  pub agree : Agree (old ++ before)
  pub disagree : Agree ((old ++ before) ++ x ∷ []) → ⊥

-- the fault of the first of these declarations that doesn't agree
abbrev pub ConstructorClash : Declared → List Declaration → SortFault → Type 0
ConstructorClash D ds fault =
    (d : Declaration) × AgainstAfter AreDeclaredOnce D.constructors ds d
    × (fault ≡ Clash d.name (length d.arguments))

-- the fault of the first of these injections that doesn't agree
abbrev pub InjectionClash : Declared → List Injection → SortFault → Type 0
InjectionClash D is fault =
    AreDeclaredOnce D.constructors × ((i : Injection) × AgainstAfter TakeNoneAlike D.injections is i
    × (fault ≡ Clash (name_of i.to) (length (arguments_of i.to))))
