use Rattle.std.proofs.Common.{length}
use Rattle.term_changes.proofs.patch.Patch.+exchange_at.Given as goal

abbrev pub decreases-exchange_at : goal.decreases-exchange_at
decreases-exchange_at l = length l.path.now
