use Rattle.std.proofs.Common.{take, map}
use Rattle.term_changes.specs.Standing.{standing_tree}
use Rattle.term_values.specs.inside.Bounded.{AllBounded}
use Rattle.term_values.proofs.places.many_bounds.Given as goal

abbrev pub invariant-loop-part : goal.invariant-loop-part
invariant-loop-part l = AllBounded (map standing_tree (take l.part-index l.parts)) l.all
