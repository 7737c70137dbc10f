-- What cells keep for an earlier mark.
use Rattle.std.specs.Prelude.{◌≡◌, ◌≤◌, ℕ, List, [], ◌∷◌, length, take, drop, slice_set, None}
use Rattle.strategy_meaning.specs.Matching.{Bindings}
use Rattle.term_match.specs.CellContents.{CellContents}
use Rattle.term_match.specs.declared.cells.Mark.{Mark}

-- these cells emptied
abbrev pub emptied : List ℕ → Bindings → Bindings
emptied [] B = B
emptied (i ∷ is) B = emptied is (slice_set B i None)

-- the first cells up to the mark's count, with those filled since emptied
abbrev pub kept : CellContents → Mark → Bindings
kept c m = emptied (drop m.filled c.filled) (take m.count c.bindings)

abbrev pub mark_of : CellContents → Mark
mark_of c = record { count = length c.bindings; filled = length c.filled }

-- a mark made before another, or the same one
abbrev pub Before : Mark → Mark → Type 0
Before m n = (m.count ≤ n.count) × (m.filled ≤ n.filled)

-- what is kept for the marks up to this one stays the same
abbrev pub Stays : Mark → CellContents → CellContents → Type 0
Stays top old new = (m : Mark) → Before m top → kept new m ≡ kept old m
