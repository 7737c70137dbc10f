use Rattle.std.proofs.Common.{◌≡◌, take, map}
use Rattle.term_changes.specs.Standing.{fresh}
use Rattle.term_values.proofs.places.new_parts.Given as goal

abbrev pub invariant-loop-value : goal.invariant-loop-value
invariant-loop-value l = l.all.items ≡ map (λ t. fresh t) (take l.value-index l.values)
