-- What the marks and the terms of a patch say. Both are read from the end of their vectors: a node
-- before the places below its children, and the first of these first.
use Rattle.std.specs.Prelude.{◌≡◌, ℕ, suc, ◌+◌, ◌-◌, ◌≤◌, List, [], ◌∷◌, take, drop}
use Rattle.std.proofs.Common.{zero}
use Rattle.term_core.specs.Tree.{Tree}
use Rattle.term_changes.specs.Change.{inside, replaced}
use Rattle.term_changes.specs.Items.{Item, items_changes}
use Rattle.term_changes.specs.declared.draft.PlaceMark.{PlaceMark}

-- a mark before others, with the terms that are left
abbrev pub read_mark : ℕ → ℕ → (List Tree → List Item) → List Tree → List Item
read_mark skipped zero others [] = []
read_mark skipped zero others (t ∷ ts) = (skipped, replaced t) ∷ others ts
read_mark skipped (suc n) others ts =
    (skipped, inside (items_changes (take (suc n) (others ts)))) ∷ drop (suc n) (others ts)

abbrev pub read : List PlaceMark → List Tree → List Item
read [] ts = []
read (x ∷ ms) ts = read_mark x.skipped x.kids (read ms) ts

-- ---- that there are enough of each

-- how many places they come to that are below no other one of them
abbrev pub count : List PlaceMark → ℕ
count [] = 0
count (x ∷ ms) = suc (count ms - x.kids)

abbrev pub is_leaf : ℕ → ℕ
is_leaf zero = 1
is_leaf (suc n) = 0

abbrev pub leaves : List PlaceMark → ℕ
leaves [] = 0
leaves (x ∷ ms) = is_leaf x.kids + leaves ms

-- each node has its places
abbrev pub HaveKids : List PlaceMark → Type 0
HaveKids [] = Unit {0}
HaveKids (x ∷ ms) = (x.kids ≤ count ms) × HaveKids ms

-- and there are so many terms as there are places for one
abbrev pub AreWhole : List PlaceMark → ℕ → Type 0
AreWhole ms n = HaveKids ms × (leaves ms ≡ n)
