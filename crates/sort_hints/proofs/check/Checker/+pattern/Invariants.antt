use Rattle.std.proofs.Common.{◌+◌, ◌*◌}
use Rattle.sort_hints.proofs.check.Checker.+pattern.Given as goal

abbrev pub decreases-pattern : goal.decreases-pattern
decreases-pattern l = 2 * l.deep

abbrev pub decreases-parts : goal.decreases-parts
decreases-parts l = 2 * l.deep + 1
