use Rattle.std.proofs.Common.{◌≡◌, take}
use Rattle.term_values.proofs.places.share_parts.Given as goal

abbrev pub invariant-loop-part : goal.invariant-loop-part
invariant-loop-part l = l.all.items ≡ take l.part-index l.parts
