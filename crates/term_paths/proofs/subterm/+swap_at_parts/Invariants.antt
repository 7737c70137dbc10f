use Rattle.std.proofs.Common.{length}
use Rattle.term_paths.proofs.subterm.+swap_at_parts.Given as goal

abbrev pub decreases-swap_at_parts : goal.decreases-swap_at_parts
decreases-swap_at_parts l = length l.parts.now
