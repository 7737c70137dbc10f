-- What the rows of a table keep true.
use Rattle.std.specs.Prelude.{◌≡◌, ℕ, List, map, Some, slice_get}
use Rattle.std.specs.List.{Contains}
use Rattle.term_sorts.specs.Sorts.{Sort, Injection, arguments_of, Takes, TakeNoneAlike}
use Rattle.term_sorts.specs.inside.Tables.{IsNumber, AreNumbers, HasNumber}
use Rattle.term_sorts.specs.declared.table.Row.{Row}

abbrev pub sorts_in : List Row → List Sort
sorts_in rows = map (λ r. r.sort) rows

-- these are the numbers of the sorts that this one takes
pub record AreTaken (injections : List Injection) (sorts : List Sort) (s : Sort) (numbers : List ℕ) : Type 0 where
  pub sound : (n : ℕ) → Contains numbers n → (r : Sort) × IsNumber sorts n r × Takes injections s r
  pub complete : (n : ℕ) (r : Sort) → IsNumber sorts n r → Takes injections s r → Contains numbers n
  pub known : (r : Sort) → Takes injections s r → HasNumber sorts r

pub record IsRow (injections : List Injection) (sorts : List Sort) (r : Row) : Type 0 where
  pub arguments : AreNumbers sorts r.arguments.items (arguments_of r.sort)
  pub taken : AreTaken injections sorts r.sort r.taken.items

-- Each sort has one number, those of the injections have one, and the first three are fixed.
pub record IsTable (rows : List Row) (injections : List Injection) : Type 0 where
  pub each : (k : ℕ) (r : Row) → slice_get rows k ≡ Some r → IsRow injections (sorts_in rows) r
  pub once : (j k : ℕ) (s : Sort) → IsNumber (sorts_in rows) j s → IsNumber (sorts_in rows) k s → j ≡ k
  pub ends : (i : Injection) → Contains injections i
      → HasNumber (sorts_in rows) i.from × HasNumber (sorts_in rows) i.to
  pub agreed : TakeNoneAlike injections
