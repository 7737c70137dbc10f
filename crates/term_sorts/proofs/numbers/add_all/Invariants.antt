use Rattle.std.proofs.Common.{◌↔◌, ◌⊎◌, ℕ, take}
use Rattle.std.specs.List.{Contains}
use Rattle.term_sorts.proofs.numbers.add_all.Given as goal

abbrev pub invariant-loop-other : goal.invariant-loop-other
invariant-loop-other l =
    (n : ℕ)
    → Contains l.numbers.items n ↔ (Contains l.initial.numbers.items n ⊎ Contains (take l.other-index l.others) n)
