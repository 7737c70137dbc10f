use Rattle.std.proofs.Common.{◌≡◌, drop}
use Rattle.term_match.specs.Marks.{emptied}
use Rattle.term_match.proofs.cells.empty_all.Given as goal

abbrev pub invariant-loop-i : goal.invariant-loop-i
invariant-loop-i l =
    emptied (drop l.i-index l.numbers) l.cells ≡ emptied l.numbers l.initial.cells
