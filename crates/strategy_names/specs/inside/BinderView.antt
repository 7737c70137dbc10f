-- What stored binders represent.
use Rattle.std.specs.Prelude.{◌≡◌, ℕ, List, [], ◌∷◌, reverse, map, ⊤}
use Rattle.std.specs.declared.option.Option.{Option}
use Rattle.std.specs.Option.{option_flatten}
use Rattle.std.specs.declared.hash.FoldHasher.{FoldHasher}
use Rattle.std.specs.declared.hash.BuildHasherDefault.{BuildHasherDefault}
use Rattle.std.specs.HashMap.{get, HashMap}
use Rattle.term_core.specs.Tree.{Symbol, same_name}
use Rattle.strategy_names.specs.Binders.{Binder, binder_number}
use Rattle.strategy_names.specs.declared.binders.OpenBinder.{OpenBinder}

-- what names stand for
abbrev pub Numbers : Type 0
Numbers = HashMap Symbol (Option ℕ) (BuildHasherDefault FoldHasher)

abbrev pub number_in : Numbers → Symbol → Option ℕ
number_in m f = option_flatten (get same_name m f)

abbrev pub binder_of : OpenBinder → Binder
binder_of e = record { name = e.name; number = e.number }

-- the innermost first; they are stored with the outermost first
abbrev pub binders_of : List OpenBinder → List Binder
binders_of es = map binder_of (reverse es)

-- each entry stores what its name stands for outside
abbrev pub Hides : List OpenBinder → Type 0
Hides [] = ⊤
Hides (e ∷ es) = (e.hidden ≡ binder_number e.name (map binder_of es)) × Hides es

-- the map says what each name stands for, inside and outside each entry
pub record IsKept (m : Numbers) (es : List OpenBinder) : Type 0 where
  pub numbers : (f : Symbol) → number_in m f ≡ binder_number f (binders_of es)
  pub hidden : Hides (reverse es)
