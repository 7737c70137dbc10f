use Rattle.std.proofs.Common.{◌≡◌, take, map}
use Rattle.term_changes.specs.Standing.{unchanged}
use Rattle.term_values.proofs.places.same_parts.Given as goal

abbrev pub invariant-loop-term : goal.invariant-loop-term
invariant-loop-term l = l.all.items ≡ map (λ t. unchanged t) (take l.term-index l.terms)
