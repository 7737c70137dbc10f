use Rattle.std.proofs.Common.{◌+◌, ◌*◌}
use Rattle.script_hints.proofs.variables.+strategy.Given as goal

abbrev pub decreases-add_strategy : goal.decreases-add_strategy
decreases-add_strategy l = 2 * l.deep

abbrev pub decreases-add_strategies : goal.decreases-add_strategies
decreases-add_strategies l = 2 * l.deep + 1
