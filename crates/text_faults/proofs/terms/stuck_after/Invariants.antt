use Rattle.text_faults.specs.inside.ReadTerms.{KeepsPlaces}
use Rattle.text_faults.proofs.terms.stuck_after.Given as goal

-- a token that was begun began at its place
abbrev pub invariant-loop-at : goal.invariant-loop-at
invariant-loop-at l = KeepsPlaces l.state l.text
