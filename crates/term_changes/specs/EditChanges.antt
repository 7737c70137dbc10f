-- Edits in the order in which they were made, and the change they amount to: of two edits one
-- within the other only the outer place remains.
use Rattle.std.specs.Prelude.{◌≡◌, ℕ, List, [], ◌∷◌}
use Rattle.std.proofs.Common.{zero, suc}
use Rattle.term_core.specs.Tree.{Tree}
use Rattle.term_paths.specs.Paths.{set_at}
use Rattle.term_paths.specs.Edits.{Edits, edited}
use Rattle.term_changes.specs.Change.{Change, same, inside, replaced, Changes, no_more, and_then, changed}

-- the change of child i
abbrev pub nth_change : Changes → ℕ → Change
nth_change no_more i = same
nth_change (and_then c cs) zero = c
nth_change (and_then c cs) (suc i) = nth_change cs i

-- the changes, with d as that of child i
abbrev pub with_nth : Changes → ℕ → Change → Changes
with_nth no_more zero d = and_then d no_more
with_nth no_more (suc i) d = and_then same (with_nth no_more i d)
with_nth (and_then c cs) zero d = and_then d cs
with_nth (and_then c cs) (suc i) d = and_then c (with_nth cs i d)

-- the change, followed by putting u at the path
abbrev pub and_edit : Change → List ℕ → Tree → Change
and_edit c [] u = replaced u
and_edit same (i ∷ p) u = inside (with_nth no_more i (and_edit same p u))
and_edit (inside cs) (i ∷ p) u = inside (with_nth cs i (and_edit (nth_change cs i) p u))
and_edit (replaced v) (i ∷ p) u = replaced (set_at v (i ∷ p) u)

abbrev pub and_edits : Change → Edits → Change
and_edits c [] = c
and_edits c (e ∷ es) = and_edits (and_edit c e.path e.new) es

-- Making the change that a list of edits amounts to has the same result as making the edits one
-- after the other.
abbrev pub EditsComeTo : Type 0
EditsComeTo = (c : Change) (es : Edits) (t : Tree) → changed (and_edits c es) t ≡ edited (changed c t) es
