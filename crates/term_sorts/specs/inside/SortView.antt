-- What the fields of a `Sort` represent.
use Rattle.std.specs.Prelude.{ℕ, ◌≤◌, ◌+◌, List, [], ◌∷◌, max}
use Rattle.std.proofs.Common.{suc, arith}
use denote.Param.Weighed.{most}
use Rattle.term_sorts.specs.Sorts.{Sort, sort, Sorts, no_sorts, and_sort, sorts_of}
use Rattle.term_sorts.specs.declared.sort.Sort.TheInside.{Inside}

abbrev pub sort_of : Inside → Sort
sort_of a = sort a.name (sorts_of a.arguments.items)

-- the depth of nested sorts
abbrev mutual
  pub depth : Sort → ℕ
  depth (sort f ss) = suc (depths ss)

  pub depths : Sorts → ℕ
  depths no_sorts = 0
  depths (and_sort s ss) = max (depth s) (depths ss)

-- ---- an argument is less deep than its sort

pub most_le-depths : (ss : List Sort) → most (λ s. depth s + 1) ss ≤ depths (sorts_of ss) + 1
most_le-depths [] = omega arith
most_le-depths (s ∷ ss) = omega (arith, most_le-depths ss)
