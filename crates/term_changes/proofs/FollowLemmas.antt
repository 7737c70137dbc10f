-- What a run may leave in the place of a subterm.
use Rattle.std.proofs.Common.{◌≡◌, List, [], ◌∷◌, length, suc, map, refl, sym, ap, ◌∙◌}
use Rattle.term_core.specs.Tree.{Tree, children}
use Rattle.term_changes.specs.Change.{Change, same, inside, replaced, Changes, no_more, and_then, changed, changed_all}
use Rattle.term_changes.specs.Standing.{standing_tree, Standing, unchanged, altered, fresh, Suits, SuitAll, stand, stand_all}
use Rattle.term_changes.proofs.NodeLemmas.{children-with_children}
use Rattle.term_changes.proofs.StandingLemmas.{suits_tree, tree-with_standing}
use Rattle.term_changes.specs.Follows.{IsFresh, Follows, AllFollow, FollowsItself, FollowsOn, FollowersCanStand, SameRootFollows, TreesOfChildren, FollowersAreTheChange, TreeOverChildren}

pub follows_itself : FollowsItself
follows_itself (unchanged t) = refl
follows_itself (altered a) = refl
follows_itself (fresh t) = tt

suits_on : (u : Tree) (q r : Standing) → Suits u q → Follows q r → Suits u r
suits_on u (unchanged t) (unchanged v) h k = k ∙ h
suits_on u (unchanged t) (altered a) h k = k ∙ h
suits_on u (unchanged t) (fresh v) h k = tt
suits_on u (altered a) (unchanged v) h k = k ∙ h
suits_on u (altered a) (altered b) h k = k ∙ h
suits_on u (altered a) (fresh v) h k = tt
suits_on u (fresh t) (unchanged v) h k = absurd k
suits_on u (fresh t) (altered b) h k = absurd k
suits_on u (fresh t) (fresh v) h k = tt

fresh_on : (q r : Standing) → IsFresh q → Follows q r → IsFresh r
fresh_on (unchanged t) r h k = absurd h
fresh_on (altered a) r h k = absurd h
fresh_on (fresh t) r h k = k

pub follows_on : FollowsOn
follows_on (unchanged t) q r h k = suits_on t q r h k
follows_on (altered a) q r h k = suits_on a.before q r h k
follows_on (fresh t) q r h k = fresh_on q r h k

same_suit : (us : List Tree) (qs : List Standing) → AllFollow (map unchanged us) qs → SuitAll us qs
same_suit [] [] h = tt
same_suit [] (q ∷ qs) h = absurd h
same_suit (u ∷ us) [] h = absurd h
same_suit (u ∷ us) (q ∷ qs) h = (h.0, same_suit us qs h.1)

fresh_suits : (u : Tree) (q : Standing) → IsFresh q → Suits u q
fresh_suits u (unchanged t) h = absurd h
fresh_suits u (altered a) h = absurd h
fresh_suits u (fresh t) h = tt

stand_suits : (u : Tree) (c : Change) (q : Standing) → Follows (stand u c) q → Suits u q
stand_suits u same q h = h
stand_suits u (inside cs) q h = h
stand_suits u (replaced t) q h = fresh_suits u q h

stand_suit : (us : List Tree) (cs : Changes) (qs : List Standing) → AllFollow (stand_all us cs) qs → SuitAll us qs
stand_suit us no_more qs h = same_suit us qs h
stand_suit [] (and_then c cs) [] h = tt
stand_suit [] (and_then c cs) (q ∷ qs) h = absurd h
stand_suit (u ∷ us) (and_then c cs) [] h = absurd h
stand_suit (u ∷ us) (and_then c cs) (q ∷ qs) h = (stand_suits u c q h.0, stand_suit us cs qs h.1)

pub followers_can_stand : FollowersCanStand
followers_can_stand (unchanged t) qs h = same_suit (children t) qs h
followers_can_stand (altered a) qs h = stand_suit (children a.before) a.changes qs h
followers_can_stand (fresh t) qs h = tt

pub same_root_follows : SameRootFollows
same_root_follows (unchanged t) qs = refl
same_root_follows (altered a) qs = refl
same_root_follows (fresh t) qs = tt

-- ---- the trees of the children

trees_same : (us : List Tree) → map standing_tree (map unchanged us) ≡ us
trees_same [] = refl
trees_same (u ∷ us) = ap (λ l. u ∷ l) (trees_same us)

trees_fresh : (us : List Tree) → map standing_tree (map fresh us) ≡ us
trees_fresh [] = refl
trees_fresh (u ∷ us) = ap (λ l. u ∷ l) (trees_fresh us)

tree_stand : (u : Tree) (c : Change) → standing_tree (stand u c) ≡ changed c u
tree_stand u same = refl
tree_stand u (inside cs) = refl
tree_stand u (replaced t) = refl

trees_stand : (us : List Tree) (cs : Changes) → map standing_tree (stand_all us cs) ≡ changed_all cs us
trees_stand us no_more = trees_same us
trees_stand [] (and_then c cs) = refl
trees_stand (u ∷ us) (and_then c cs) = λ i. tree_stand u c i ∷ trees_stand us cs i

pub length-changed : (us : List Tree) (cs : Changes) → length (changed_all cs us) ≡ length us
length-changed us no_more = refl
length-changed [] (and_then c cs) = refl
length-changed (u ∷ us) (and_then c cs) = ap suc (length-changed us cs)

pub trees_of_children : TreesOfChildren
trees_of_children (unchanged t) = trees_same (children t)
trees_of_children (altered a) =
    trees_stand (children a.before) a.changes
    ∙ sym (children-with_children a.before (changed_all a.changes (children a.before))
    (length-changed (children a.before) a.changes))
trees_of_children (fresh t) = trees_fresh (children t)

pub followers_are_the_change : FollowersAreTheChange
followers_are_the_change t q h = suits_tree t q h

pub tree_over_children : TreeOverChildren
tree_over_children = tree-with_standing
