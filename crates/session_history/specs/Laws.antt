-- Undo and redo are inverse.
use Rattle.std.specs.Prelude.{◌≡◌, ℕ, true, [], ◌∷◌, Some, None, Ok}
use Rattle.term_changes.specs.Contents.{Contents}
use Rattle.session_history.specs.History.{HistoryGroup, History, changed}
use Rattle.session_history.specs.Acts.{Act, undo, redo, commit, ComesTo, IsChange}

-- An accepted change leads to some contents by a change.
abbrev pub ChangeIsToContents : Type 0
ChangeIsToContents = (act : Act) (h g : History) → IsChange act → ComesTo act h (Ok g)
    → (c : Contents) × (g ≡ changed c h)

-- After a change to any contents outside a group, undo restores the contents and the past from
-- before it, and redo then restores everything that the change left.
abbrev pub ChangeIsUndone : Type 0
ChangeIsUndone = (c : Contents) (h g : History) → g ≡ changed c h → h.group ≡ None →
    ComesTo (undo 1) g (Ok (record h { later = g.now ∷ [] }))
    × ComesTo (redo 1) (record h { later = g.now ∷ [] }) (Ok g)

-- The same after a group with a change is committed: undo restores the contents where it began.
abbrev pub GroupIsUndone : Type 0
GroupIsUndone = (group : HistoryGroup) (h g : History) → h.group ≡ Some group → group.changed ≡ true
    → ComesTo commit h (Ok g) →
    ComesTo (undo 1) g (Ok (record h { now = group.begun; later = h.now ∷ []; group = None }))
    × ComesTo (redo 1) (record h { now = group.begun; later = h.now ∷ []; group = None }) (Ok g)

-- Redo of k steps restores the whole history from before an undo of k steps.
abbrev pub RedoTakesUndoBack : Type 0
RedoTakesUndoBack = (k : ℕ) (h g : History) → ComesTo (undo k) h (Ok g) → ComesTo (redo k) g (Ok h)

-- The same for undo after redo.
abbrev pub UndoTakesRedoBack : Type 0
UndoTakesRedoBack = (k : ℕ) (h g : History) → ComesTo (redo k) h (Ok g) → ComesTo (undo k) g (Ok h)
