-- Laws of setting subterms at paths.
use Rattle.std.specs.Prelude.{◌≡◌, ℕ, List, ◌∷◌, ◌++◌, reverse, Some, unwrap_or, option_and_then}
use Rattle.term_core.specs.Tree.{Tree}
use Rattle.term_paths.specs.Paths.{at, leads, annotations_at, set_at, set_annotations_at, LiesWithin}
use Rattle.term_paths.specs.Edits.{Edits, paths, prefixed, edited, Replaces, with_outermost}

-- If a path leads to a subterm, putting it back after anything was set there restores the tree.
abbrev pub PuttingBack : Type 0
PuttingBack = (t u old : Tree) (p : List ℕ) → at t p ≡ Some old → set_at (set_at t p u) p old ≡ t

-- The same for the annotations of the subterm.
abbrev pub PuttingAnnotationsBack : Type 0
PuttingAnnotationsBack = (t : Tree) (us old : List Tree) (p : List ℕ)
    → annotations_at t p ≡ Some old
    → set_annotations_at (set_annotations_at t p us) p old ≡ t

-- a subterm set at a path that leads to one is there afterwards
abbrev pub SetIsThere : Type 0
SetIsThere = (t u old : Tree) (p : List ℕ) → at t p ≡ Some old → at (set_at t p u) p ≡ Some u

abbrev pub SetAnnotationsAreThere : Type 0
SetAnnotationsAreThere = (t : Tree) (us old : List Tree) (p : List ℕ)
    → annotations_at t p ≡ Some old → annotations_at (set_annotations_at t p us) p ≡ Some us

-- Of two subterms set at one path only the last remains.
abbrev pub LastSetStays : Type 0
LastSetStays = (t u v : Tree) (p : List ℕ) → set_at (set_at t p u) p v ≡ set_at t p v

abbrev pub LastAnnotationsStay : Type 0
LastAnnotationsStay = (t : Tree) (us vs : List Tree) (p : List ℕ)
    → set_annotations_at (set_annotations_at t p us) p vs ≡ set_annotations_at t p vs

abbrev pub SubtermAfterAnnotations : Type 0
SubtermAfterAnnotations = (t u : Tree) (us : List Tree) (p : List ℕ)
    → set_at (set_annotations_at t p us) p u ≡ set_at t p u

-- ---- swapping

-- a tree and a separate term, after swapping the subterm at the path with that term; both unchanged
-- if there is no subterm
abbrev pub swapped : List ℕ → Tree × Tree → Tree × Tree
swapped p both = (set_at both.0 p both.1, unwrap_or (at both.0 p) both.1)

-- the same for the annotations there and a list of terms
abbrev pub annotations_swapped : List ℕ → Tree × List Tree → Tree × List Tree
annotations_swapped p both =
    (set_annotations_at both.0 p both.1, unwrap_or (annotations_at both.0 p) both.1)

abbrev pub SwappingTwiceIsNothing : Type 0
SwappingTwiceIsNothing = (p : List ℕ) (t u : Tree) → swapped p (swapped p (t, u)) ≡ (t, u)

abbrev pub SwappingAnnotationsTwiceIsNothing : Type 0
SwappingAnnotationsTwiceIsNothing = (p : List ℕ) (t : Tree) (us : List Tree)
    → annotations_swapped p (annotations_swapped p (t, us)) ≡ (t, us)

-- ---- concatenated paths

-- A concatenated path leads where its second part leads below the subterm at its first part, and
-- sets in that subterm.
abbrev pub AtAfter : Type 0
AtAfter = (t : Tree) (p q : List ℕ) → at t (p ++ q) ≡ option_and_then (λ u. at u q) (at t p)

abbrev pub SetAfter : Type 0
SetAfter = (t u v : Tree) (p q : List ℕ) → at t p ≡ Some u
    → set_at t (p ++ q) v ≡ set_at t p (set_at u q v)

abbrev pub SetAnnotationsAfter : Type 0
SetAnnotationsAfter = (t u : Tree) (notes : List Tree) (p q : List ℕ) → at t p ≡ Some u
    → set_annotations_at t (p ++ q) notes ≡ set_at t p (set_annotations_at u q notes)

-- ---- disjoint paths

-- Neither path lies within the other.
abbrev pub AreApart : List ℕ → List ℕ → Type 0
AreApart p q = (¬ (LiesWithin p q)) × (¬ (LiesWithin q p))

-- Setting at a path doesn't change what is at a disjoint path, and the order of the two doesn't
-- matter.
abbrev pub ApartIsLeft : Type 0
ApartIsLeft = (t u : Tree) (p q : List ℕ) → AreApart p q → at (set_at t p u) q ≡ at t q

abbrev pub ApartCommute : Type 0
ApartCommute = (t u v : Tree) (p q : List ℕ) → AreApart p q
    → set_at (set_at t p u) q v ≡ set_at (set_at t q v) p u

-- The same for annotations, and for annotations and a subterm.
abbrev pub ApartIsLeftByAnnotations : Type 0
ApartIsLeftByAnnotations = (t : Tree) (us : List Tree) (p q : List ℕ) → AreApart p q
    → at (set_annotations_at t p us) q ≡ at t q

abbrev pub ApartAnnotationsCommute : Type 0
ApartAnnotationsCommute = (t : Tree) (us vs : List Tree) (p q : List ℕ) → AreApart p q
    → set_annotations_at (set_annotations_at t p us) q vs
    ≡ set_annotations_at (set_annotations_at t q vs) p us

abbrev pub ApartMixedCommute : Type 0
ApartMixedCommute = (t u : Tree) (vs : List Tree) (p q : List ℕ) → AreApart p q
    → set_annotations_at (set_at t p u) q vs ≡ set_at (set_annotations_at t q vs) p u

-- ---- paths that lie within another

-- Setting at a path overwrites what was set at a path within it, whether or not that led to a
-- subterm.
abbrev pub SetAround : Type 0
SetAround = (t u v : Tree) (p q : List ℕ) → set_at (set_at t (p ++ q) v) p u ≡ set_at t p u

abbrev pub SetAroundAnnotations : Type 0
SetAroundAnnotations = (t u : Tree) (notes : List Tree) (p q : List ℕ)
    → set_at (set_annotations_at t (p ++ q) notes) p u ≡ set_at t p u

-- What is set within it afterwards can as well be set in the subterm before that is put there.
abbrev pub SetInside : Type 0
SetInside = (t u v : Tree) (p q : List ℕ)
    → set_at (set_at t p u) (p ++ q) v ≡ set_at t p (set_at u q v)

abbrev pub SetAnnotationsInside : Type 0
SetAnnotationsInside = (t u : Tree) (notes : List Tree) (p q : List ℕ)
    → set_annotations_at (set_at t p u) (p ++ q) notes ≡ set_at t p (set_annotations_at u q notes)

-- Whether a path leads to a subterm stays the same after a change within it.
abbrev pub LeadsAround : Type 0
LeadsAround = (t v : Tree) (p q : List ℕ) → leads (set_at t (p ++ q) v) p ≡ leads t p

abbrev pub LeadsAroundAnnotations : Type 0
LeadsAroundAnnotations = (t : Tree) (notes : List Tree) (p q : List ℕ)
    → leads (set_annotations_at t (p ++ q) notes) p ≡ leads t p

-- ---- annotations, and what is below the subterm that has them

-- Setting annotations doesn't change what is below, and the order of the two doesn't matter.
abbrev pub BelowIsLeftByAnnotations : Type 0
BelowIsLeftByAnnotations = (t : Tree) (notes : List Tree) (p q : List ℕ) (i : ℕ)
    → at (set_annotations_at t p notes) (p ++ i ∷ q) ≡ at t (p ++ i ∷ q)

abbrev pub AnnotationsAndBelowCommute : Type 0
AnnotationsAndBelowCommute = (t u : Tree) (notes : List Tree) (p q : List ℕ) (i : ℕ)
    → set_annotations_at (set_at t (p ++ i ∷ q) u) p notes
    ≡ set_at (set_annotations_at t p notes) (p ++ i ∷ q) u

abbrev pub AnnotationsBelowCommute : Type 0
AnnotationsBelowCommute = (t : Tree) (notes below : List Tree) (p q : List ℕ) (i : ℕ)
    → set_annotations_at (set_annotations_at t (p ++ i ∷ q) below) p notes
    ≡ set_annotations_at (set_annotations_at t p notes) (p ++ i ∷ q) below

-- ---- edits

abbrev pub EditsMakeTheTree : Type 0
EditsMakeTheTree = (e : Edits) (t u : Tree) → Replaces e t u → edited t e ≡ u

-- Edits made one after the other, and those of a subterm, are edits of the tree.
abbrev pub EditsAfterEdits : Type 0
EditsAfterEdits = (e f : Edits) (t u v : Tree) → Replaces e t u → Replaces f u v
    → Replaces (e ++ f) t v

abbrev pub EditsOfASubterm : Type 0
EditsOfASubterm = (e : Edits) (whole t u : Tree) (p : List ℕ) → at whole p ≡ Some t
    → Replaces e t u → Replaces (prefixed p e) whole (set_at whole p u)

-- There are edits at the same places, the last one first, that undo these.
abbrev pub EditsLeadBack : Type 0
EditsLeadBack = (e : Edits) (t u : Tree) → Replaces e t u
    → (back : Edits) × (paths back ≡ reverse (paths e)) × Replaces back u t

-- The edits change the tree only at the outermost of their places.
abbrev pub OutermostAreEnough : Type 0
OutermostAreEnough = (e : Edits) (t u : Tree) → Replaces e t u → with_outermost (paths e) t u ≡ u
