-- Changes without the children that have no place in them.
use Rattle.std.specs.Prelude.{suc, List, [], ◌∷◌}
use Rattle.term_changes.specs.Change.{Change, same, inside, replaced, Changes, no_more, and_then}
use Rattle.term_changes.specs.Items.{Item, after_skipped, first_item, items_changes}

-- the items of a node as one item; none where there are none
abbrev pub as_one : List Item → List Item
as_one [] = []
as_one (x ∷ xs) = (0, inside (items_changes (x ∷ xs))) ∷ []

-- the item of a child before those of the children after it; where it has none it is left
abbrev pub child_before : List Item → List Item → List Item
child_before [] xs = after_skipped (suc (first_item xs).0) xs
child_before (y ∷ ys) xs = y ∷ xs

abbrev mutual
  -- the item of a change, or none where it has no place
  pub item_of : Change → List Item
  item_of same = []
  item_of (inside cs) = as_one (items_of cs)
  item_of (replaced u) = (0, replaced u) ∷ []

  pub items_of : Changes → List Item
  items_of no_more = []
  items_of (and_then c cs) = child_before (item_of c) (items_of cs)
