-- Changes of children, each after some that are left as they are.
use Rattle.std.specs.Prelude.{ℕ, suc, List, [], ◌∷◌, take, drop}
use Rattle.std.proofs.Common.{zero}
use Rattle.term_changes.specs.Change.{Change, same, inside, Changes, no_more, and_then}

-- how many children are left, and the change of the next one
abbrev pub Item : Type 0
Item = ℕ × Change

-- so many children are left, and then these changes
abbrev pub after_left : ℕ → Changes → Changes
after_left zero cs = cs
after_left (suc n) cs = and_then same (after_left n cs)

-- the changes of all children
abbrev pub items_changes : List Item → Changes
items_changes [] = no_more
items_changes (x ∷ xs) = after_left x.0 (and_then x.1 (items_changes xs))

-- ---- what a draft comes to

-- the first n as the changes of the children of one node
abbrev pub gathered : ℕ → List Item → List Item
gathered n xs = (0, inside (items_changes (take n xs))) ∷ drop n xs

-- with so many children left before the first
abbrev pub after_skipped : ℕ → List Item → List Item
after_skipped n [] = []
after_skipped n (x ∷ xs) = (n, x.1) ∷ xs

-- the first one; none changes nothing
abbrev pub first_item : List Item → Item
first_item [] = (0, inside no_more)
first_item (x ∷ xs) = x

abbrev pub first_change : List Item → Change
first_change xs = (first_item xs).1
