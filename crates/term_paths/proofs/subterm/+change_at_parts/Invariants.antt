use Rattle.std.proofs.Common.{length}
use Rattle.term_paths.proofs.subterm.+change_at_parts.Given as goal

abbrev pub decreases-change_at_parts : goal.decreases-change_at_parts
decreases-change_at_parts g l = length l.parts.now
