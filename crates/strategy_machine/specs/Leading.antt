-- How edits lead from what was in a place to what is there now.
use Rattle.std.specs.Prelude.{◌⊎◌, ℕ, List, [], ◌∷◌, ◌++◌, length, drop}
use Rattle.term_core.specs.Tree.{children}
use Rattle.term_paths.specs.Edits.{Edits, Replaces}
use Rattle.term_changes.specs.Change.{Change, same, inside, replaced}
use Rattle.term_changes.specs.EditChanges.{nth_change}
use Rattle.term_changes.specs.Standing.{Standing, unchanged, altered, fresh, standing_tree, standing_change, standing_children, with_standing}
use Rattle.term_changes.specs.Follows.{Follows, AllFollow}
use Rattle.term_changes.specs.Putting.{HaveAllPlaces}
use Rattle.strategy_meaning.specs.Outermost.{IsOf}

-- whether a place of the change is at this path
abbrev pub IsPlace : Change → List ℕ → Type 0
IsPlace same x = ⊥
IsPlace (inside cs) [] = ⊥
IsPlace (inside cs) (i ∷ x) = IsPlace (nth_change cs i) x
IsPlace (replaced u) [] = Unit {0}
IsPlace (replaced u) (i ∷ x) = ⊥

-- whether a place of the change is at this path or above it
abbrev pub IsWithin : Change → List ℕ → Type 0
IsWithin same x = ⊥
IsWithin (inside cs) [] = ⊥
IsWithin (inside cs) (i ∷ x) = IsWithin (nth_change cs i) x
IsWithin (replaced u) x = Unit {0}

-- a kept subterm has the places of the change
abbrev pub Has : Standing → Type 0
Has (unchanged t) = Unit {0}
Has (altered a) = HaveAllPlaces (children a.before) a.changes
Has (fresh t) = Unit {0}

abbrev pub AllHave : List Standing → Type 0
AllHave [] = Unit {0}
AllHave (p ∷ ps) = Has p × AllHave ps

-- the node so far: unchanged, or with these parts in the places of its first children
abbrev pub node_now : Standing → List Standing → Standing
node_now p [] = p
node_now p (q ∷ qs) = with_standing p (q ∷ qs)

-- the parts in the places of its children so far
abbrev pub parts_now : Standing → List Standing → List Standing
parts_now p [] = standing_children p
parts_now p (q ∷ qs) = q ∷ qs

-- the parts in the places of all its children, given those of the first ones
abbrev pub all_parts : Standing → List Standing → List Standing
all_parts p [] = []
all_parts p (q ∷ qs) = (q ∷ qs) ++ drop (length (q ∷ qs)) (standing_children p)

-- the node with these parts in the places of its first children
abbrev pub node_with : Standing → List Standing → Standing
node_with p qs = node_now p (all_parts p qs)

-- These parts can stand there.
pub record PartsStand (p : Standing) (qs : List Standing) : Type 0 where
  pub follow : AllFollow (standing_children p) (parts_now p qs)
  pub have : AllHave (parts_now p qs)

-- ---- where a part comes from

-- q is in the place of p after these edits: a subterm that q keeps was kept in p; each place of q
-- was a place of p or is that of an edit; and no edit lies outside the places of q.
pub record Leads (p : Standing) (e : Edits) (q : Standing) : Type 0 where
  pub follows : Follows p q
  pub made : Replaces e (standing_tree p) (standing_tree q)
  pub has : Has q
  pub among : (x : List ℕ) → IsPlace (standing_change q) x → IsPlace (standing_change p) x ⊎ IsOf x e
  pub covers : (x : List ℕ) → IsWithin (standing_change p) x ⊎ IsOf x e → IsWithin (standing_change q) x
