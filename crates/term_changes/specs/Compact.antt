-- Compact logs: no two entries change the same thing.
use Rattle.std.specs.Prelude.{◌≡◌, List}
use Rattle.std.specs.List.{AllPairs}
use Rattle.term_paths.specs.Paths as path
use Rattle.term_changes.specs.Entries.{Entry, slot_tree, subterm, subterm_annotations, slot_text}

-- Whether the place of the first entry lies within that of the second. A slot's tree contains all
-- its subterms and annotations; a subterm contains the subterms and annotations at paths that
-- extend its own; annotations contain only themselves, and so does a module text.
abbrev pub LiesWithin : Entry → Entry → Type 0
LiesWithin (slot_tree i t) (slot_tree j u) = i ≡ j
LiesWithin (subterm i p t) (slot_tree j u) = i ≡ j
LiesWithin (subterm_annotations i p ts) (slot_tree j u) = i ≡ j
LiesWithin (subterm i p t) (subterm j q u) = (i ≡ j) × path.LiesWithin p q
LiesWithin (subterm_annotations i p ts) (subterm j q u) = (i ≡ j) × path.LiesWithin p q
LiesWithin (subterm_annotations i p ts) (subterm_annotations j q us) = (i ≡ j) × (p ≡ q)
LiesWithin (slot_text i x) (slot_text j y) = i ≡ j
LiesWithin d e = ⊥

-- Neither place lies within the other.
abbrev pub EntriesAreApart : Entry → Entry → Type 0
EntriesAreApart d e = (¬ (LiesWithin d e)) × (¬ (LiesWithin e d))

-- No entry's place lies within another's.
abbrev pub IsCompact : List Entry → Type 0
IsCompact log = AllPairs EntriesAreApart log
