-- What the rows of a table gain by an injection, and when they mustn't.
use Rattle.std.specs.Prelude.{◌≡◌, ◌↔◌, ◌⊎◌, ℕ, List, Some, slice_get}
use Rattle.std.specs.List.{Contains}
use Rattle.term_sorts.specs.Sorts.{Sort, AreAlike}
use Rattle.term_sorts.specs.inside.Tables.{IsNumber}
use Rattle.term_sorts.specs.inside.TableView.{sorts_in}
use Rattle.term_sorts.specs.declared.table.Row.{Row}

-- The row gains these numbers if it has that of the sort that they are injected into.
pub record Gains (to : ℕ) (gained : List ℕ) (old new : Row) : Type 0 where
  pub sort : new.sort ≡ old.sort
  pub arguments : new.arguments.items ≡ old.arguments.items
  pub taken : (n : ℕ) → Contains new.taken.items n
      ↔ (Contains old.taken.items n ⊎ (Contains old.taken.items to × Contains gained n))

abbrev pub NumbersAreAlike : List Sort → ℕ → ℕ → Type 0
NumbersAreAlike sorts m n = (p : Sort) × (q : Sort) × IsNumber sorts m p × IsNumber sorts n q × AreAlike p q

abbrev pub ClashesWith : List Sort → ℕ → List ℕ → Type 0
ClashesWith sorts m others = (n : ℕ) × Contains others n × (n ≡ m → ⊥) × NumbersAreAlike sorts m n

abbrev pub HasClash : List Sort → List ℕ → List ℕ → Type 0
HasClash sorts taken others = (m : ℕ) × Contains taken m × ClashesWith sorts m others

-- a sort of the row is like another one that is gained, which the row would have to take
abbrev pub RowClashes : List Sort → Row → ℕ → List ℕ → Type 0
RowClashes sorts r to gained = Contains r.taken.items to × HasClash sorts r.taken.items gained

abbrev pub HaveClash : List Row → ℕ → List ℕ → Type 0
HaveClash rows to gained =
    (k : ℕ) × (r : Row) × (slice_get rows k ≡ Some r) × RowClashes (sorts_in rows) r to gained
