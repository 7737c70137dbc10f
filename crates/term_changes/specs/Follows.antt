-- What a run may leave in the place of a subterm.
use Rattle.std.specs.Prelude.{◌≡◌, List, [], ◌∷◌, map}
use Rattle.term_core.specs.Tree.{Tree, children, with_children}
use Rattle.term_changes.specs.Change.{changed}
use Rattle.term_changes.specs.Standing.{Standing, unchanged, altered, fresh, Suits, standing_tree, standing_change, standing_children, CanHold, with_standing}

abbrev pub IsFresh : Standing → Type 0
IsFresh (unchanged t) = ⊥
IsFresh (altered a) = ⊥
IsFresh (fresh t) = Unit {0}

-- whether q can stand wherever p can: a subterm that is kept stays the same subterm
abbrev pub Follows : Standing → Standing → Type 0
Follows (unchanged t) q = Suits t q
Follows (altered a) q = Suits a.before q
Follows (fresh t) q = IsFresh q

abbrev pub AllFollow : List Standing → List Standing → Type 0
AllFollow [] [] = Unit {0}
AllFollow [] (q ∷ qs) = ⊥
AllFollow (p ∷ ps) [] = ⊥
AllFollow (p ∷ ps) (q ∷ qs) = Follows p q × AllFollow ps qs

abbrev pub FollowsItself : Type 0
FollowsItself = (p : Standing) → Follows p p

abbrev pub FollowsOn : Type 0
FollowsOn = (p q r : Standing) → Follows p q → Follows q r → Follows p r

-- What follows the children can stand in their places.
abbrev pub FollowersCanStand : Type 0
FollowersCanStand = (p : Standing) (qs : List Standing) → AllFollow (standing_children p) qs → CanHold p qs

-- The same root over new children follows.
abbrev pub SameRootFollows : Type 0
SameRootFollows = (p : Standing) (qs : List Standing) → Follows p (with_standing p qs)

-- The trees of the standings of the children are the children.
abbrev pub TreesOfChildren : Type 0
TreesOfChildren = (p : Standing) → map standing_tree (standing_children p) ≡ children (standing_tree p)

-- A standing that follows an unchanged subterm has the tree that its change makes of that subterm.
abbrev pub FollowersAreTheChange : Type 0
FollowersAreTheChange = (t : Tree) (q : Standing) → Follows (unchanged t) q
    → changed (standing_change q) t ≡ standing_tree q

-- The same root over new standings of the children has as its tree the same root over their trees.
abbrev pub TreeOverChildren : Type 0
TreeOverChildren = (p : Standing) (qs : List Standing) → CanHold p qs
    → standing_tree (with_standing p qs) ≡ with_children (standing_tree p) (map standing_tree qs)
