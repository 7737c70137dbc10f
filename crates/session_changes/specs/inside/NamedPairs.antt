-- Entries that are lent with their names.
use Rattle.std.specs.Prelude.{ℕ, List, map}
use Rattle.term_changes.specs.Entries.{Entry}
use Rattle.change_log.specs.Reading.{held_entry}
use Rattle.session_changes.specs.declared.last_step.NamedEntry.{NamedEntry}

abbrev pub pairs_of : List NamedEntry → List (List ℕ × Entry)
pairs_of xs = map (λ x. (x.name.now, held_entry x.held)) xs
