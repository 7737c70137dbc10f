use Rattle.std.proofs.Common.{◌+◌, ◌*◌}
use Rattle.sort_hints.proofs.check.Checker.+strategy.Given as goal

abbrev pub decreases-strategy : goal.decreases-strategy
decreases-strategy l = 4 * l.deep

abbrev pub decreases-guard : goal.decreases-guard
decreases-guard l = 4 * l.deep + 1

abbrev pub decreases-apart : goal.decreases-apart
decreases-apart l = 4 * l.deep + 1

abbrev pub decreases-part : goal.decreases-part
decreases-part l = 4 * l.deep + 1

abbrev pub decreases-elements : goal.decreases-elements
decreases-elements l = 4 * l.deep + 2

abbrev pub decreases-call : goal.decreases-call
decreases-call l = 4 * l.deep + 2

abbrev pub decreases-congruence : goal.decreases-congruence
decreases-congruence l = 4 * l.deep + 3
