-- A tree and what was replaced in it.
use Rattle.std.specs.Prelude.{◌≡◌, List, [], ◌∷◌, map}
use Rattle.term_core.specs.Tree.{Tree, children, with_children}
use Rattle.term_changes.specs.Change.{Change, same, inside, replaced, Changes, no_more, and_then, changed}

-- a tree, and the changes of its children
pub record Altered : Type 0 where
  pub before : Tree
  pub changes : Changes

-- the tree with the changes made
abbrev pub after : Altered → Tree
after a = changed (inside a.changes) a.before

-- What takes the place of a subterm: that subterm itself, that subterm with some places replaced,
-- or another tree.
pub data Standing : Type 0 where
  unchanged : Tree → Standing
  altered : Altered → Standing
  fresh : Tree → Standing

abbrev pub standing_tree : Standing → Tree
standing_tree (unchanged t) = t
standing_tree (altered a) = after a
standing_tree (fresh t) = t

abbrev pub standing_change : Standing → Change
standing_change (unchanged t) = same
standing_change (altered a) = inside a.changes
standing_change (fresh t) = replaced t

-- whether it can take the place of u: what it keeps is u
abbrev pub Suits : Tree → Standing → Type 0
Suits u (unchanged t) = t ≡ u
Suits u (altered a) = a.before ≡ u
Suits u (fresh t) = Unit {0}

abbrev pub SuitAll : List Tree → List Standing → Type 0
SuitAll [] [] = Unit {0}
SuitAll [] (p ∷ ps) = ⊥
SuitAll (u ∷ us) [] = ⊥
SuitAll (u ∷ us) (p ∷ ps) = Suits u p × SuitAll us ps

abbrev pub standing_changes : List Standing → Changes
standing_changes [] = no_more
standing_changes (p ∷ ps) = and_then (standing_change p) (standing_changes ps)

-- ---- down to the children and up again

-- what takes the place of u after a change
abbrev pub stand : Tree → Change → Standing
stand u same = unchanged u
stand u (inside cs) = altered (record { before = u; changes = cs })
stand u (replaced t) = fresh t

abbrev pub stand_all : List Tree → Changes → List Standing
stand_all us no_more = map unchanged us
stand_all [] (and_then c cs) = []
stand_all (u ∷ us) (and_then c cs) = stand u c ∷ stand_all us cs

-- what takes the places of the children
abbrev pub standing_children : Standing → List Standing
standing_children (unchanged t) = map unchanged (children t)
standing_children (altered a) = stand_all (children a.before) a.changes
standing_children (fresh t) = map fresh (children t)

-- whether these can take the places of the children
abbrev pub CanHold : Standing → List Standing → Type 0
CanHold (unchanged t) ps = SuitAll (children t) ps
CanHold (altered a) ps = SuitAll (children a.before) ps
CanHold (fresh t) ps = Unit {0}

-- the same root over these children
abbrev pub with_standing : Standing → List Standing → Standing
with_standing (unchanged t) ps = altered (record { before = t; changes = standing_changes ps })
with_standing (altered a) ps = altered (record { before = a.before; changes = standing_changes ps })
with_standing (fresh t) ps = fresh (with_children t (map standing_tree ps))
