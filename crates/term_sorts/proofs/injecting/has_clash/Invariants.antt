use Rattle.std.proofs.Common.{ℕ, ◌<◌, get_or}
use Rattle.term_sorts.specs.inside.Gaining.{ClashesWith}
use Rattle.term_sorts.specs.inside.TableView.{sorts_in}
use Rattle.term_sorts.proofs.injecting.has_clash.Given as goal

abbrev pub invariant-loop-number : goal.invariant-loop-number
invariant-loop-number l = (k : ℕ) → k < l.number-index → ClashesWith (sorts_in l.rows) (get_or l.taken k 0) l.gained → ⊥
