-- What a table knows of what a place wants.
use Rattle.std.specs.Prelude.{◌≡◌, ◌↔◌, ℕ, List, [], true, Some, None, length}
use Rattle.term_core.specs.Tree.{Symbol, Tree}
use Rattle.std.specs.declared.option.Option.{Option}
use Rattle.std.specs.Borrow.{Bor}
use Rattle.term_sorts.specs.Sorts.{Sort, Injection, str_sort, list_sort, tuple_sort, Takes}
use Rattle.term_sorts.specs.Signatures.{wanted_sort}
use Rattle.term_sorts.specs.inside.Tables.{Table, IsNumber, AreNumbers}
use Rattle.term_sorts.specs.inside.TableView.{IsRow}
use Rattle.term_sorts.specs.declared.table.Row.{Row}
use Rattle.term_sorts.specs.declared.taking.Parts.{Parts}
use Rattle.term_sorts.specs.declared.taking.Parts.TheVariants.{Refused, Any, Of}
use Rattle.term_sorts.specs.declared.wanted.Wanted.{Wanted}

-- the row of the wanted sort, or none where any is wanted
abbrev pub IsRowOf : Table → Wanted → Option (Bor Row) → Type 0
IsRowOf t w None = wanted_sort t.sorts w ≡ None
IsRowOf t w (Some row) = (wanted_sort t.sorts w ≡ Some row.now.sort) × IsRow t.injections t.sorts row.now

-- a place that wants this takes terms of the sort
abbrev pub Allows : List Injection → Option Sort → Sort → Type 0
Allows injections None r = Unit {0}
Allows injections (Some s) r = Takes injections s r

-- what a list at a place wants of its elements, if it may be there
abbrev pub ElementsAre : List Injection → List Sort → Option Sort → Option Wanted → Type 0
ElementsAre injections sorts None None = ⊥
ElementsAre injections sorts None (Some w) = wanted_sort sorts w ≡ None
ElementsAre injections sorts (Some s) None = (element : Option Sort) → Takes injections s (list_sort element) → ⊥
ElementsAre injections sorts (Some s) (Some w) =
    (element : Option Sort) → Takes injections s (list_sort element) ↔ (element ≡ wanted_sort sorts w)

-- these are the numbers of the parts of the sort of the one number, which is one of tuples of so many
abbrev pub ArePartsOf : List Sort → ℕ → ℕ → List ℕ → Type 0
ArePartsOf sorts number count numbers =
    (parts : List Sort) × AreNumbers sorts numbers parts
    × (length parts ≡ count) × IsNumber sorts number (tuple_sort parts)

-- what a tuple of so many at a place wants of its parts
abbrev pub PartsWanted : List Injection → List Sort → Option Sort → ℕ → Parts → Type 0
PartsWanted injections sorts None count Refused = ⊥
PartsWanted injections sorts None count Any = Unit {0}
PartsWanted injections sorts None count (Of numbers) = ⊥
PartsWanted injections sorts (Some s) count Refused =
    (parts : List Sort) → length parts ≡ count → Takes injections s (tuple_sort parts) → ⊥
PartsWanted injections sorts (Some s) count Any = ⊥
PartsWanted injections sorts (Some s) count (Of numbers) =
    (all : List Sort) × AreNumbers sorts numbers.now all × (length all ≡ count)
    × ((parts : List Sort) → length parts ≡ count → Takes injections s (tuple_sort parts) ↔ (parts ≡ all))

-- an application that is a string, at a place that takes strings
abbrev pub IsTakenString : List Injection → Option Sort → Symbol → List Tree → Type 0
IsTakenString injections wanted f arguments =
    (f.is_quoted ≡ true) × (arguments ≡ []) × Allows injections wanted str_sort
