-- What was read of a patch.
use Rattle.std.specs.Prelude.{ℕ, suc, ◌+◌, List, [], ◌∷◌, take}
use Rattle.term_core.specs.Tree.{Tree, of_list}
use Rattle.term_changes.specs.Change.{Change, same, inside, replaced, Changes, no_more, and_then, changed_all}
use Rattle.term_changes.specs.Items.{Item, items_changes}
use Rattle.session_history.specs.Differences.{Difference, differences_from}
use Rattle.term_changes.specs.declared.reading.PatchItem.{PatchItem}
use Rattle.term_changes.specs.declared.reading.PatchItem.TheVariants.{Term, Node}

-- how many of the next items belong to it
abbrev pub kids_of : PatchItem → ℕ
kids_of (Term t) = 0
kids_of (Node kids) = kids

-- the change that it is, with these items next
abbrev pub change_of : PatchItem → List Item → Change
change_of (Term t) items = replaced t.now
change_of (Node kids) items = inside (items_changes (take kids items))

-- the differences of children from number `at` on, of which these items say what was there before
abbrev pub differences_of : List ℕ → ℕ → List Item → List Tree → List Difference
differences_of path at items us = differences_from path at (of_list (changed_all (items_changes items) us)) (of_list us)

-- How much there is to read in a change. It falls with each item.
abbrev mutual
  pub weight : Change → ℕ
  weight same = 0
  weight (inside cs) = suc (weights cs)
  weight (replaced t) = 1

  pub weights : Changes → ℕ
  weights no_more = 0
  weights (and_then c cs) = weight c + weights cs

abbrev pub items_weight : List Item → ℕ
items_weight [] = 0
items_weight (x ∷ xs) = weight x.1 + items_weight xs
