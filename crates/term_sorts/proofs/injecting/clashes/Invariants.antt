use Rattle.std.proofs.Common.{◌≡◌, ℕ, ◌<◌, get_or}
use Rattle.term_sorts.specs.inside.Gaining.{NumbersAreAlike}
use Rattle.term_sorts.specs.inside.TableView.{sorts_in}
use Rattle.term_sorts.proofs.injecting.clashes.Given as goal

abbrev pub invariant-loop-other : goal.invariant-loop-other
invariant-loop-other l =
    (k : ℕ) → k < l.other-index → (get_or l.gained k 0 ≡ l.number → ⊥) → NumbersAreAlike (sorts_in l.rows) l.number
    (get_or l.gained k 0) → ⊥
