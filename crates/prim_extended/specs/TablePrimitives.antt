-- The primitives on tables. They give nothing where another term stands in a table's place on their way.
use Rattle.std.specs.Prelude.{List, [], ◌∷◌, None}
use Rattle.std.specs.declared.option.Option.{Option}
use Rattle.std.specs.Option.{option_map}
use Rattle.term_core.specs.Tree.{Tree, list_term}
use Rattle.term_order.specs.Tables.{get, keys, put, removed, table_of, term_of}

abbrev pub put_of : List Tree → Option Tree
put_of (t ∷ k ∷ v ∷ []) = option_map term_of (put k v (table_of t))
put_of arguments = None

abbrev pub got_of : List Tree → Option Tree
got_of (t ∷ k ∷ []) = get k (table_of t)
got_of arguments = None

abbrev pub removed_of : List Tree → Option Tree
removed_of (t ∷ k ∷ []) = option_map term_of (removed k (table_of t))
removed_of arguments = None

abbrev pub keys_of : List Tree → Option Tree
keys_of (t ∷ []) = option_map list_term (keys (table_of t))
keys_of arguments = None
