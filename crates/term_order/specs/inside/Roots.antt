-- The order of roots, where neither children nor annotations are looked at.
use Rattle.std.specs.declared.cmp.Ordering.{Ordering}
use Rattle.std.specs.declared.cmp.Ordering.TheVariants.{Less, Greater}
use Rattle.std.specs.Ordering.{int_cmp}
use Rattle.term_core.specs.Tree.{Tree, integer, branch}
use Rattle.term_order.specs.Order.{compared_heads}

abbrev pub compared_roots : Tree → Tree → Ordering
compared_roots (integer x ms) (integer y ns) = int_cmp x y
compared_roots (integer x ms) (branch h us ns) = Less
compared_roots (branch g ts ms) (integer y ns) = Greater
compared_roots (branch g ts ms) (branch h us ns) = compared_heads g h
