use Rattle.std.proofs.Common.{◌≡◌, take, map}
use Rattle.term_changes.specs.Standing.{standing_tree}
use Rattle.term_values.proofs.places.part_values.Given as goal

abbrev pub invariant-loop-part : goal.invariant-loop-part
invariant-loop-part l = l.all.items ≡ map standing_tree (take l.part-index l.parts)
