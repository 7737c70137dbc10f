-- What takes the places of a term's children.
use Rattle.std.proofs.Common.{◌≡◌, ℕ, List, [], ◌∷◌, length, map, ◌<◌, ◌≤◌, get_or, Some, None, zero, refl, sym, arith, ap, ◌∙◌, suc}
use Rattle.std.specs.List.{slice_get}
use Rattle.std.proofs.lemmas.Option.{slice_get_past}
use Rattle.term_core.specs.Tree.{Tree, children, with_children}
use Rattle.term_changes.specs.Change.{inside, changed, changed_all}
use Rattle.term_changes.specs.Standing.{Altered, after, Standing, unchanged, altered, fresh, Suits, SuitAll, standing_change, standing_changes, standing_tree, stand, stand_all, CanHold, with_standing}
use Rattle.term_changes.proofs.NodeLemmas.{children-with_children, with_children-with_children}

pub length-suit : (us : List Tree) (ps : List Standing) → SuitAll us ps → length ps ≡ length us
length-suit [] [] h = refl
length-suit [] (p ∷ ps) h = absurd h
length-suit (u ∷ us) [] h = absurd h
length-suit (u ∷ us) (p ∷ ps) h = ap suc (length-suit us ps h.1)

pub suits_tree : (u : Tree) (p : Standing) → Suits u p → changed (standing_change p) u ≡ standing_tree p
suits_tree u (unchanged t) h = sym h
suits_tree u (altered a) h = ap (λ v. changed (inside a.changes) v) (sym h)
suits_tree u (fresh t) h = refl

pub changed-suit : (us : List Tree) (ps : List Standing) → SuitAll us ps
    → changed_all (standing_changes ps) us ≡ map standing_tree ps
changed-suit [] [] h = refl
changed-suit [] (p ∷ ps) h = absurd h
changed-suit (u ∷ us) [] h = absurd h
changed-suit (u ∷ us) (p ∷ ps) h = λ i. suits_tree u p h.0 i ∷ changed-suit us ps h.1 i

suits_stand : (u : Tree) (p : Standing) → Suits u p → p ≡ stand u (standing_change p)
suits_stand u (unchanged t) h = ap unchanged h
suits_stand u (altered a) h = λ i. altered (record { before = h i; changes = a.changes })
suits_stand u (fresh t) h = refl

pub suits_stand_all : (us : List Tree) (ps : List Standing) → SuitAll us ps → ps ≡ stand_all us (standing_changes ps)
suits_stand_all [] [] h = refl
suits_stand_all [] (p ∷ ps) h = absurd h
suits_stand_all (u ∷ us) [] h = absurd h
suits_stand_all (u ∷ us) (p ∷ ps) h = λ i. suits_stand u p h.0 i ∷ suits_stand_all us ps h.1 i

pub length-map_tree : (ps : List Standing) → length (map standing_tree ps) ≡ length ps
length-map_tree [] = refl
length-map_tree (p ∷ ps) = ap suc (length-map_tree ps)

-- the children of a changed subterm
pub children-after : (t : Tree) (ps : List Standing) → SuitAll (children t) ps
    → children (with_children t (changed_all (standing_changes ps) (children t))) ≡ map standing_tree ps
children-after t ps h =
    ap (λ us. children (with_children t us)) (changed-suit (children t) ps h)
    ∙ children-with_children t (map standing_tree ps) (length-map_tree ps ∙ length-suit (children t) ps h)

pub altered_children : (t : Tree) (ps : List Standing) (x : Altered)
    → record { before = t; changes = standing_changes ps } ≡ x → SuitAll (children t) ps
    → children (after x) ≡ map standing_tree ps
altered_children t ps x e h = ap (λ a. children (after a)) (sym e) ∙ children-after t ps h

pub altered_count : (t : Tree) (ps : List Standing) (x : Altered)
    → record { before = t; changes = standing_changes ps } ≡ x → SuitAll (children t) ps
    → length ps ≡ length (children (after x))
altered_count t ps x e h = sym (ap length (altered_children t ps x e h) ∙ length-map_tree ps)

get_map : (ps : List Standing) (i : ℕ) (p : Standing) → i < length ps → p ≡ get_or ps i p
    → slice_get (map standing_tree ps) i ≡ Some (standing_tree p)
get_map [] i p h e = absurd (omega (arith, h))
get_map (q ∷ ps) zero p h e = ap (λ x. Some (standing_tree x)) (sym e)
get_map (q ∷ ps) (suc i) p h e = get_map ps i p (omega (arith, h)) e

pub altered_child : (t : Tree) (ps : List Standing) (x : Altered) (i : ℕ) (p : Standing)
    → record { before = t; changes = standing_changes ps } ≡ x → SuitAll (children t) ps
    → i < length ps → p ≡ get_or ps i p → slice_get (children (after x)) i ≡ Some (standing_tree p)
altered_child t ps x i p e h l g = ap (λ us. slice_get us i) (altered_children t ps x e h) ∙ get_map ps i p l g

pub altered_past : (t : Tree) (ps : List Standing) (x : Altered) (i : ℕ)
    → record { before = t; changes = standing_changes ps } ≡ x → SuitAll (children t) ps
    → length ps ≤ i → slice_get (children (after x)) i ≡ None
altered_past t ps x i e h l = slice_get_past (children (after x)) i (omega (arith, l, altered_count t ps x e h))

-- the tree of a node over new standings of its children
pub tree-with_standing : (s : Standing) (ps : List Standing) → CanHold s ps
    → standing_tree (with_standing s ps) ≡ with_children (standing_tree s) (map standing_tree ps)
tree-with_standing (unchanged t) ps h = ap (with_children t) (changed-suit (children t) ps h)
tree-with_standing (altered a) ps h =
    ap (with_children a.before) (changed-suit (children a.before) ps h)
    ∙ sym (with_children-with_children a.before (changed_all a.changes (children a.before)) (map standing_tree ps))
tree-with_standing (fresh t) ps h = refl
