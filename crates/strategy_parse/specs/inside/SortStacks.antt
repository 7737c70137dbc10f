-- The sorts of a declaration, as they are read.
use Rattle.std.specs.Prelude.{List, [], refl}
use Rattle.std.specs.Coded.{Coded, code_by, coded×, coded_list}
use Rattle.term_core.specs.Tree.{Symbol}
use Rattle.term_core.specs.inside.TreeCode.{symbol_code}
use Rattle.term_sorts.specs.Sorts.{Sort}
use Rattle.term_sorts.specs.inside.SortCode.{sort_code}

-- a sort whose arguments are being read, and the sorts before it
pub record OpenSort : Type 0 where
  pub name : Symbol
  pub before : List Sort

abbrev pub open_sort_code : Coded OpenSort
open_sort_code =
    code_by (Symbol × List Sort) (coded× symbol_code (coded_list sort_code))
    (λ o. (o.name, o.before)) (λ p. record { name = p.0; before = p.1 }) (λ _. refl)

-- the sorts that were read last, and the open ones around them, the innermost first
pub record SortStack : Type 0 where
  pub around : List OpenSort
  pub sorts : List Sort

abbrev pub no_stack : SortStack
no_stack = record { around = []; sorts = [] }
