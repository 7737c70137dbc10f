use Rattle.std.proofs.Common.{◌+◌, ◌*◌}
use Rattle.script_hints.proofs.variables.+pattern.Given as goal

abbrev pub decreases-add_pattern : goal.decreases-add_pattern
decreases-add_pattern l = 2 * l.deep

abbrev pub decreases-add_patterns : goal.decreases-add_patterns
decreases-add_patterns l = 2 * l.deep + 1
