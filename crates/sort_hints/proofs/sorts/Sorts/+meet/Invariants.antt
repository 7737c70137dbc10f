use Rattle.std.proofs.Common.{◌+◌, ◌*◌}
use Rattle.sort_hints.proofs.sorts.Sorts.+meet.Given as goal

abbrev pub decreases-meet : goal.decreases-meet
decreases-meet l = 2 * l.deep

abbrev pub decreases-parts_meet : goal.decreases-parts_meet
decreases-parts_meet l = 2 * l.deep + 1
