use Rattle.std.proofs.Common.{length}
use Rattle.strategy_parse.proofs.StuckModules.{Following}
use Rattle.strategy_parse.proofs.modules.stuck.follow.Given as goal

abbrev pub invariant-loop-token : goal.invariant-loop-token
invariant-loop-token l = Following l.tokens l.place l.item l.left

abbrev pub decreases-loop-token : goal.decreases-loop-token
decreases-loop-token l = length l.left
