-- The primitives on lists. They give nothing if an argument is of another kind. Elements keep their
-- annotations, which count where they are compared.
use Rattle.std.specs.Prelude.{pos, List, [], ◌∷◌, length, reverse, Some, None, if◌then◌else◌, not, option_and_then}
use Rattle.std.specs.declared.option.Option.{Option}
use Rattle.std.specs.List.{filter, filter_map, find, flat_map, list_any, position_from}
use Rattle.std.specs.Option.{option_map}
use Rattle.std.specs.Ordering.{is_lt}
use Rattle.term_core.specs.Tree.{tuple, Tree, branch, none, more, list_term}
use Rattle.strategy_meaning.specs.Same.{same_tree}
use Rattle.term_order.specs.Order.{compared}
use Rattle.prim_core.specs.Values.{integer_in_range, one}
use Rattle.prim_extended.specs.Bytes.{list_value, each}

-- the number of elements
abbrev pub counted_of : List Tree → Option Tree
counted_of arguments =
    option_and_then (λ ts. integer_in_range (pos (length ts))) (one list_value arguments)

-- the elements from the last to the first
abbrev pub reversed_of : List Tree → Option Tree
reversed_of arguments = option_map (λ ts. list_term (reverse ts)) (one list_value arguments)

-- the elements of all these lists, in order
abbrev pub joined : List Tree → Option (List Tree)
joined ts = option_map (flat_map (λ us. us)) (each list_value ts)

abbrev pub concatenated_of : List Tree → Option Tree
concatenated_of arguments =
    option_map list_term (option_and_then joined (one list_value arguments))

-- a term before the first element that doesn't come before it in the order on terms
abbrev pub inserted : Tree → List Tree → List Tree
inserted t [] = t ∷ []
inserted t (u ∷ us) = if is_lt (compared u t) then u ∷ inserted t us else t ∷ u ∷ us

-- the elements in the order on terms
abbrev pub sorted : List Tree → List Tree
sorted [] = []
sorted (t ∷ ts) = inserted t (sorted ts)

abbrev pub sorted_of : List Tree → Option Tree
sorted_of arguments = option_map (λ ts. list_term (sorted ts)) (one list_value arguments)

-- the elements that are equal to none of another list
abbrev pub without : List Tree → List Tree → List Tree
without ts us = filter (λ t. not (list_any (same_tree t) us)) ts

abbrev pub left_of : List Tree → Option Tree
left_of (a ∷ b ∷ []) =
    option_and_then (λ ts. option_map (λ us. list_term (without ts us)) (list_value b)) (list_value a)
left_of arguments = None

-- the place of the first element that is equal to a term, counted from 0
abbrev pub placed_of : List Tree → Option Tree
placed_of (t ∷ us ∷ []) = option_and_then (λ ts. option_and_then (λ n. integer_in_range (pos n))
    (position_from (same_tree t) 0 ts)) (list_value us)
placed_of arguments = None

-- the two components of a pair
abbrev pub pair_value : Tree → Option (Tree × Tree)
pair_value (branch tuple (more k (more v none)) notes) = Some (k, v)
pair_value t = None

-- The second component of the first pair whose first is equal to a term. Elements that are no pairs
-- are passed over.
abbrev pub second_of : Tree → List Tree → Option Tree
second_of t us = option_map (λ p. p.1) (find (λ p. same_tree t p.0) (filter_map pair_value us))

abbrev pub looked_up_of : List Tree → Option Tree
looked_up_of (t ∷ us ∷ []) = option_and_then (second_of t) (list_value us)
looked_up_of arguments = None
