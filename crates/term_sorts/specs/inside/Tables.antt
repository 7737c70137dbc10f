-- Sorts by numbers, as a table of them knows them.
use Rattle.std.specs.Prelude.{◌≡◌, ℕ, List, Some, slice_get, refl}
use Rattle.std.specs.List.{AllZip}
use Rattle.std.specs.Coded.{Coded, code_by, coded×, coded_list}
use Rattle.term_sorts.specs.Sorts.{Sort, Injection}
use Rattle.term_sorts.specs.inside.SortCode.{sort_code, injection_code}

-- The sorts by their numbers, and the injections.
pub record Table : Type 0 where
  pub sorts : List Sort
  pub injections : List Injection

abbrev pub table_code : Coded Table
table_code =
    code_by (List Sort × List Injection) (coded× (coded_list sort_code) (coded_list injection_code))
    (λ t. (t.sorts, t.injections)) (λ p. record { sorts = p.0; injections = p.1 }) (λ _. refl)

abbrev pub IsNumber : List Sort → ℕ → Sort → Type 0
IsNumber sorts n s = slice_get sorts n ≡ Some s

abbrev pub AreNumbers : List Sort → List ℕ → List Sort → Type 0
AreNumbers sorts numbers ss = AllZip (IsNumber sorts) numbers ss

abbrev pub HasNumber : List Sort → Sort → Type 0
HasNumber sorts s = (n : ℕ) × IsNumber sorts n s

-- sorts keep their numbers
abbrev pub KeepNumbers : List Sort → List Sort → Type 0
KeepNumbers old new = (n : ℕ) (s : Sort) → IsNumber old n s → IsNumber new n s

-- the same injections, and the sorts, which keep their numbers, and others
pub record Extends (old new : Table) : Type 0 where
  pub injections : new.injections ≡ old.injections
  pub numbers : KeepNumbers old.sorts new.sorts
