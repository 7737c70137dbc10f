-- The primitive that compares terms.
use Rattle.std.specs.Prelude.{ℤ, pos, negsuc, List, Some}
use Rattle.std.specs.declared.option.Option.{Option}
use Rattle.std.specs.declared.cmp.Ordering.{Ordering}
use Rattle.std.specs.declared.cmp.Ordering.TheVariants.{Less, Equal, Greater}
use Rattle.std.specs.Option.{option_map}
use Rattle.term_core.specs.Tree.{Tree, integer_term}
use Rattle.prim_core.specs.Values.{two}
use Rattle.term_order.specs.Order.{compared}

abbrev pub sign : Ordering → ℤ
sign Less = negsuc 0
sign Equal = pos 0
sign Greater = pos 1

-- -1, 0 or 1 if the first of two terms comes before the second, is equal to it, or comes after it
abbrev pub compared_of : List Tree → Option Tree
compared_of arguments = option_map (λ p. integer_term (sign (compared p.0 p.1))) (two Some arguments)
