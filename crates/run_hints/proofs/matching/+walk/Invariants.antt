use Rattle.std.proofs.Common.{◌+◌, ◌*◌}
use Rattle.run_hints.proofs.matching.+walk.Given as goal

abbrev pub decreases-walk_pattern : goal.decreases-walk_pattern
decreases-walk_pattern l = 2 * l.deep

abbrev pub decreases-walk_all : goal.decreases-walk_all
decreases-walk_all l = 2 * l.deep + 1
