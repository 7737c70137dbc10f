use Rattle.std.proofs.Common.{◌≡◌, drop}
use Rattle.term_paths.specs.Paths.{at}
use Rattle.term_paths.proofs.subterm.at_parts.Given as goal

-- the rest of the path leads from here to where the whole path leads from the root
abbrev pub invariant-loop-part : goal.invariant-loop-part
invariant-loop-part l = at l.here (drop l.part-index l.parts) ≡ at l.term l.parts
