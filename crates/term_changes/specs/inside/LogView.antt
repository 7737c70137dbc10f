-- What the fields of logs represent.
use Rattle.std.specs.Prelude.{ℕ, ◌+◌, List, [], ◌∷◌, take, drop}
use Rattle.term_changes.specs.Entries.{Entry}
use Rattle.term_changes.specs.declared.plan.Replaced.{Replaced}
use Rattle.term_changes.specs.LogView.{entry_of}

-- the entries whose paths are concatenated in these numbers
abbrev pub entries : List Replaced → List ℕ → List Entry
entries [] paths = []
entries (r ∷ rs) paths =
    entry_of r.slot (take r.depth paths) r.kept ∷ entries rs (drop r.depth paths)

-- the total length of the paths
abbrev pub depths : List Replaced → ℕ
depths [] = 0
depths (r ∷ rs) = r.depth + depths rs
