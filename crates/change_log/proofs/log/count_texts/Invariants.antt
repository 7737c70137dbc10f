use Rattle.std.proofs.Common.{◌≡◌, ◌≤◌, List, ℕ, take}
use Rattle.term_changes.specs.Entries.{texts}
use Rattle.term_changes.specs.inside.LogView.{entries}
use Rattle.change_log.proofs.log.count_texts.Given as goal

abbrev pub invariant-loop-entry : goal.invariant-loop-entry
invariant-loop-entry l =
    (l.count ≤ l.entry-index) × ((paths : List ℕ) → l.count ≡ texts (entries (take l.entry-index l.replaced) paths))
