-- What the fields of entries and logs represent.
use Rattle.std.specs.Prelude.{ℕ, List}
use Rattle.term_changes.specs.Entries.{Entry, slot_tree, subterm, subterm_annotations, slot_text}
use Rattle.term_changes.specs.declared.entry.Kept.{Kept}
use Rattle.term_changes.specs.declared.entry.Kept.TheVariants.{Tree, Subterm, Annotations, Text}

-- an entry from its slot, its path and its value
abbrev pub entry_of : ℕ → List ℕ → Kept → Entry
entry_of slot path (Tree t) = slot_tree slot t
entry_of slot path (Subterm t) = subterm slot path t
entry_of slot path (Annotations ts) = subterm_annotations slot path ts.items
entry_of slot path (Text x) = slot_text slot x
