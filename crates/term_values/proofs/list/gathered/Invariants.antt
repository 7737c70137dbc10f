use Rattle.std.proofs.Common.{◌≡◌, ◌<◌, ◌++◌, length}
use Rattle.term_core.specs.Tree.{children, list_term}
use Rattle.term_values.proofs.list.gathered.Given as goal

abbrev pub invariant-chunks : goal.invariant-chunks
invariant-chunks l =
    (0 < length l.all.items) × (l.after ≡ list_term (children l.after))
    × (l.all.items ++ children l.after ≡ l.initial.all.items ++ children l.initial.after)
