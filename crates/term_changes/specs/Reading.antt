-- Reading a patch.
use Rattle.std.specs.Prelude.{◌≡◌, ℕ, ◌≤◌, List, [], ◌∷◌, take, drop, length, Some, None}
use Rattle.std.specs.declared.option.Option.{Option}
use Rattle.term_changes.specs.Change.{inside, replaced}
use Rattle.term_changes.specs.Items.{Item, items_changes}
use Rattle.term_changes.specs.declared.reading.PatchItem.{PatchItem}
use Rattle.term_changes.specs.declared.reading.PatchItem.TheVariants.{Term, Node}

-- From the first items to the second this was read: the term of the first one, or that it is a node,
-- whose items come first then.
abbrev pub IsNextItem : List Item → Option (ℕ × PatchItem) → List Item → Type 0
IsNextItem old None new = old ≡ []
IsNextItem old (Some (skipped, Term t)) new = old ≡ (skipped, replaced t.now) ∷ new
IsNextItem old (Some (skipped, Node kids)) new =
    (1 ≤ kids) × (kids ≤ length new) × (old ≡ (skipped, inside (items_changes (take kids new))) ∷ drop kids new)
