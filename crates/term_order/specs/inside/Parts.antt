-- How tables are read from terms.
use Rattle.std.specs.Prelude.{ℕ, pos, Bool, true, false, Some, None}
use Rattle.std.specs.declared.option.Option.{Option}
use Rattle.term_core.specs.Tree.{Tree, integer, none}
use Rattle.term_order.specs.Tables.{Table, empty, node, other}

-- the number that a term is, if it is a natural one without annotations
abbrev pub natural_of : Tree → Option ℕ
natural_of (integer (pos n) none) = Some n
natural_of t = None

abbrev pub is_empty : Table → Bool
is_empty empty = true
is_empty (node n l k v r) = false
is_empty (other t) = false

abbrev pub is_node : Table → Bool
is_node empty = false
is_node (node n l k v r) = true
is_node (other t) = false
