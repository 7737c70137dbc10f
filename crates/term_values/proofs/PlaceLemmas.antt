-- Parts in the places of children.
use Rattle.std.proofs.Common.{◌≡◌, ℕ, ◌+◌, ◌<◌, ◌≤◌, List, [], ◌∷◌, ◌++◌, length, map, take, get_or, slice_set, Some, refl, sym, ap, ◌∙◌, arith, zero, suc}
use Rattle.std.specs.List.{slice_get}
use Rattle.std.proofs.lemmas.List.{map-append, take_more}
use Rattle.term_core.specs.Tree.{Tree, of_list, children, annotations, with_children}
use Rattle.term_core.specs.Size.{height, heights}
use Rattle.term_changes.specs.Change.{changed_all}
use Rattle.term_changes.specs.Standing.{Altered, after, Standing, unchanged, fresh, SuitAll, stand_all, standing_tree, standing_changes, standing_children, with_standing}
use Rattle.term_changes.specs.Putting.{HaveAllPlaces}
use Rattle.term_changes.proofs.NodeLemmas.{annotations-with_children}
use Rattle.term_changes.proofs.StandingLemmas.{suits_stand_all, altered_children}
use Rattle.term_values.specs.declared.bounds.Bounds.{Bounds}
use Rattle.term_values.specs.inside.Bounded.{Bounded, AllWithin}
use Rattle.term_values.proofs.SizeLemmas.{height_parts, bounded_along}

pub nth_within : (us : List Tree) (b : Bounds) (i : ℕ) (v : Tree) → i < length us → v ≡ get_or us i v → AllWithin us b
    → Bounded v b
nth_within [] b i v h e w = absurd (omega (arith, h))
nth_within (u ∷ us) b zero v h e w = bounded_along u v b (sym e) w.0
nth_within (u ∷ us) b (suc i) v h e w = nth_within us b i v (omega (arith, h)) e w.1

pub get_unchanged : (us : List Tree) (i : ℕ) (v : Tree) → i < length us → v ≡ get_or us i v
    → slice_get (map (λ t. unchanged t) us) i ≡ Some (unchanged v)
get_unchanged [] i v h e = absurd (omega (arith, h))
get_unchanged (u ∷ us) zero v h e = ap (λ t. Some (unchanged t)) (sym e)
get_unchanged (u ∷ us) (suc i) v h e = get_unchanged us i v (omega (arith, h)) e

-- the trees of the first parts and one more
pub trees_more : (ps : List Standing) (i : ℕ) (p : Standing) → i < length ps → p ≡ get_or ps i p
    → map standing_tree (take (i + 1) ps) ≡ map standing_tree (take i ps) ++ standing_tree p ∷ []
trees_more ps i p h e =
    ap (map standing_tree) (take_more ps i p h ∙ ap (λ x. take i ps ++ x ∷ []) (sym e))
    ∙ map-append standing_tree (take i ps) (p ∷ [])

pub altered_parts : (t : Tree) (ps : List Standing) (x : Altered)
    → record { before = t; changes = standing_changes ps } ≡ x → SuitAll (children t) ps
    → ps ≡ stand_all (children x.before) x.changes
altered_parts t ps x e h = suits_stand_all (children t) ps h ∙ ap (λ a. stand_all (children a.before) a.changes) e

pub altered_annotations : (t : Tree) (ps : List Standing) (x : Altered)
    → record { before = t; changes = standing_changes ps } ≡ x
    → annotations t ≡ annotations (after x)
altered_annotations t ps x e =
    sym (annotations-with_children t (changed_all (standing_changes ps) (children t)))
    ∙ ap (λ a. annotations (after a)) e

-- ---- heights of parts

pub part_height : (ps : List Standing) (i : ℕ) (p : Standing) → i < length ps → p ≡ get_or ps i p
    → height (standing_tree p) ≤ heights (of_list (map standing_tree ps))
part_height [] i p h e = absurd (omega (arith, h))
part_height (q ∷ ps) zero p h e = omega (arith, ap (λ x. height (standing_tree x)) e)
part_height (q ∷ ps) (suc i) p h e = omega (arith, part_height ps i p (omega (arith, h)) e)

pub altered_heights : (t : Tree) (ps : List Standing) (x : Altered)
    → record { before = t; changes = standing_changes ps } ≡ x → SuitAll (children t) ps
    → heights (of_list (map standing_tree ps)) + 1 ≤ height (after x)
altered_heights t ps x e h =
    omega (arith, ap (λ us. heights (of_list us)) (altered_children t ps x e h), height_parts (after x))

-- ---- the places exist

-- Whether subterms whose places these can take have the places of the changes.
abbrev pub AllThere : List Standing → Type 0
AllThere ps = (us : List Tree) → SuitAll us ps → HaveAllPlaces us (standing_changes ps)

-- ---- one child replaced

all_fresh : (us : List Tree) → us ≡ map standing_tree (map fresh us)
all_fresh [] = refl
all_fresh (u ∷ us) = ap (λ l. u ∷ l) (all_fresh us)

fresh_set : (us : List Tree) (i : ℕ) (p : Standing)
    → slice_set us i (standing_tree p) ≡ map standing_tree (slice_set (map fresh us) i p)
fresh_set [] i p = refl
fresh_set (u ∷ us) zero p = ap (λ l. standing_tree p ∷ l) (all_fresh us)
fresh_set (u ∷ us) (suc i) p = ap (λ l. u ∷ l) (fresh_set us i p)

pub fresh_with : (t : Tree) (i : ℕ) (p : Standing)
    → fresh (with_children t (slice_set (children t) i (standing_tree p)))
    ≡ with_standing (fresh t) (slice_set (standing_children (fresh t)) i p)
fresh_with t i p = ap (λ l. fresh (with_children t l)) (fresh_set (children t) i p)
