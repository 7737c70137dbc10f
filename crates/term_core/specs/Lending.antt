-- How a term lends its children for writing.
use Rattle.std.specs.Prelude.{List, length}
use Rattle.std.specs.List.{refill}
use Rattle.std.specs.Borrow.{Lends, MutBor, Fml, Array}
use Rattle.term_core.specs.Tree.{Tree, children, with_children}
use Rattle.term_core.specs.contracts.term.Term.{the_row}

-- the term ends up with what is left in the slice of its children, whose length stays the same
abbrev pub LendsChildren : MutBor Tree → MutBor (List Tree) → Fml
LendsChildren t kids =
    Lends the_row (Array the_row 0) t kids
    (λ us. with_children t.now (refill (length (children t.now)) (children t.now) us))
