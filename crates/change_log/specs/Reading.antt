-- Reading steps and logs.
use Rattle.std.specs.Prelude.{◌≡◌, List, [], ◌∷◌, Some, None}
use Rattle.std.specs.declared.option.Option.{Option}
use Rattle.term_changes.specs.Entries.{Entry}
use Rattle.term_changes.specs.LogView.{entry_of}
use Rattle.term_changes.specs.PatchLaws.{patch_entries}
use Rattle.change_log.specs.declared.reading.HeldEntry.{HeldEntry}
use Rattle.change_log.specs.declared.step.Whole.{Whole}
use Rattle.change_log.specs.declared.step.PatchedSubterm.{PatchedSubterm}
use Rattle.change_log.specs.declared.step.Changes.{Changes}
use Rattle.change_log.specs.declared.step.Changes.TheVariants.{One, Patched, Logged}

-- the entry of a change with an empty path
abbrev pub whole_entry : Whole → Entry
whole_entry w = entry_of w.slot [] w.kept

-- the entries of a patch
abbrev pub part_entries : PatchedSubterm → List Entry
part_entries p = patch_entries p.slot p.path.items p.patch

-- the entries of a step's changes
abbrev pub entries_of : Changes → List Entry
entries_of (One w) = whole_entry w ∷ []
entries_of (Patched p) = part_entries p
entries_of (Logged log) = log

-- the entry that was read
abbrev pub held_entry : HeldEntry → Entry
held_entry h = entry_of h.slot h.path.now h.kept.now

-- From the first entries to the second this one was read.
abbrev pub IsNextEntry : List Entry → Option HeldEntry → List Entry → Type 0
IsNextEntry old None new = old ≡ []
IsNextEntry old (Some h) new = old ≡ held_entry h ∷ new
