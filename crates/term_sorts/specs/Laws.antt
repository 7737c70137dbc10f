-- Laws of sorts.
use Rattle.std.specs.Prelude.{◌↔◌, ℕ, List, None, IsSome}
use Rattle.std.specs.declared.option.Option.{Option}
use Rattle.std.specs.List.{Contains}
use Rattle.term_core.specs.Tree.{list, tuple, Tree, Trees, branch}
use Rattle.term_paths.specs.Paths.{at, set_at}
use Rattle.term_sorts.specs.Sorts.{Sort, Declaration, Injection, Declared, AreAgreed, Conforms, IsWellSorted, AllConform, WantsAt}

-- Lists and tuples that are in no constructor may hold terms of any sorts.
abbrev pub FreeListsAndTuples : Type 0
FreeListsAndTuples =
    (D : Declared) (kids notes : Trees)
    → (IsWellSorted D (branch list kids notes) ↔ AllConform D None kids)
    × (IsWellSorted D (branch tuple kids notes) ↔ AllConform D None kids)

-- If something else is put at a place of a term that conforms, the term does so afterwards exactly if
-- that is what the place wants. So only replaced places need a look.
abbrev pub ReplacedPlacesDecide : Type 0
ReplacedPlacesDecide =
    (D : Declared) → AreAgreed D → (wanted : Option Sort) (t u : Tree) (path : List ℕ) → Conforms D wanted t
    → IsSome (at t path)
    → (there : Option Sort) × WantsAt D wanted t path there × (Conforms D wanted (set_at t path u) ↔ Conforms D there u)

-- More declarations leave a term what it is.
abbrev pub MoreDeclareNoLess : Type 0
MoreDeclareNoLess =
    (D E : Declared) → ((d : Declaration) → Contains D.constructors d → Contains E.constructors d)
    → ((i : Injection) → Contains D.injections i → Contains E.injections i)
    → (wanted : Option Sort) (t : Tree) → Conforms D wanted t → Conforms E wanted t
