-- Laws of tables.
use Rattle.std.specs.Prelude.{◌≡◌, if◌then◌else◌, Some, None}
use Rattle.std.specs.Ordering.{eq_by_cmp}
use Rattle.term_core.specs.Tree.{Tree}
use Rattle.term_order.specs.Order.{compared}
use Rattle.term_order.specs.Tables.{Table, empty, table_of, term_of, get, put, removed, IsTable}

-- A term is the one that its table is written as.
abbrev pub TermsAreTheirTables : Type 0
TermsAreTheirTables = (t : Tree) → term_of (table_of t) ≡ t

abbrev pub EmptyIsTable : Type 0
EmptyIsTable = IsTable empty × ((q : Tree) → get q empty ≡ None)

-- A table takes each entry, is a table again, and has this value at the key and else what it had.
abbrev pub PutPuts : Type 0
PutPuts = (t : Table) (k v : Tree) → IsTable t
    → (u : Table) × (put k v t ≡ Some u) × IsTable u
    × ((q : Tree) → get q u ≡ (if eq_by_cmp compared q k then Some v else get q t))

-- Without a key it is a table, and has nothing at this key and else what it had.
abbrev pub RemovedRemoves : Type 0
RemovedRemoves = (t : Table) (k : Tree) → IsTable t
    → (u : Table) × (removed k t ≡ Some u) × IsTable u
    × ((q : Tree) → get q u ≡ (if eq_by_cmp compared q k then None else get q t))
