-- Putting replaced subterms into a store one after the other.
use Rattle.std.specs.Prelude.{◌≡◌, ℕ, List, [], ◌∷◌, ◌++◌, map, Some}
use Rattle.term_core.specs.Tree.{Tree, children}
use Rattle.term_paths.specs.Laws.{AreApart}
use Rattle.term_changes.specs.Slots.{Store}
use Rattle.term_changes.specs.Entries.{Entry, subterm, subterm_in, put, before, after, flipped_forward, Fits, FitsForward}
use Rattle.term_paths.specs.Edits.{Edit, Edits, edited, prefixed}
use Rattle.term_changes.specs.Change.{Change, same, inside, replaced, Changes, no_more, and_then, changed, places}

-- the entry that puts the new subterm at its place in the tree of a slot
abbrev pub entry_at : ℕ → Edit → Entry
entry_at slot x = subterm slot x.path x.new

abbrev pub entries_at : ℕ → Edits → List Entry
entries_at slot ps = map (entry_at slot) ps

abbrev pub ApartFromAll : List ℕ → Edits → Type 0
ApartFromAll q [] = Unit {0}
ApartFromAll q (x ∷ e) = AreApart q x.path × ApartFromAll q e

-- no place lies within another
abbrev pub AllApart : Edits → Type 0
AllApart [] = Unit {0}
AllApart (x ∷ e) = ApartFromAll x.path e × AllApart e

-- The places of a change are disjoint.
abbrev pub PlacesLieApart : Type 0
PlacesLieApart = (c : Change) (p : List ℕ) → AllApart (prefixed p (places c))

-- Setting them all makes the change.
abbrev pub PlacesMakeTheChange : Type 0
PlacesMakeTheChange = (c : Change) (t : Tree) → edited t (places c) ≡ changed c t

-- The same in a store, where the changed subterm is part of a slot's tree.
abbrev pub PlacesPutTheChange : Type 0
PlacesPutTheChange = (c : Change) (u : Tree) (slot : ℕ) (p : List ℕ) (s : Store)
    → subterm_in s.trees slot p ≡ Some u
    → after (entries_at slot (prefixed p (places c))) s ≡ put (subterm slot p (changed c u)) s

-- ---- the places exist

abbrev mutual
  -- whether the tree has the places of the change
  pub HasPlaces : Tree → Change → Type 0
  HasPlaces t same = Unit {0}
  HasPlaces t (inside cs) = HaveAllPlaces (children t) cs
  HasPlaces t (replaced u) = Unit {0}

  pub HaveAllPlaces : List Tree → Changes → Type 0
  HaveAllPlaces us no_more = Unit {0}
  HaveAllPlaces [] (and_then c cs) = ⊥
  HaveAllPlaces (u ∷ us) (and_then c cs) = HasPlaces u c × HaveAllPlaces us cs

-- Then each entry finds its place.
abbrev pub PlacesAreThere : Type 0
PlacesAreThere = (c : Change) (u : Tree) (slot : ℕ) (p : List ℕ) (s : Store)
    → subterm_in s.trees slot p ≡ Some u → HasPlaces u c
    → FitsForward (entries_at slot (prefixed p (places c))) s

-- ---- logs of several changes

-- The log still leads back to the same store.
abbrev pub AllLeadBack : Type 0
AllLeadBack = (log es : List Entry) (s : Store)
    → before (log ++ flipped_forward es s) (after es s) ≡ before log s

-- If each new entry finds its place, the log still fits.
abbrev pub AllFit : Type 0
AllFit = (log es : List Entry) (s : Store) → Fits log s → FitsForward es s
    → Fits (log ++ flipped_forward es s) (after es s)
