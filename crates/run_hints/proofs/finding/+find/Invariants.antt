use Rattle.std.proofs.Common.{◌+◌, ◌*◌}
use Rattle.run_hints.proofs.finding.+find.Given as goal

abbrev pub decreases-Node::find : goal.decreases-Node::find
decreases-Node::find l = 2 * l.deep

abbrev pub decreases-find_among : goal.decreases-find_among
decreases-find_among l = 2 * l.deep + 1
