use Rattle.std.proofs.Common.{length}
use Rattle.strategy_parse.specs.inside.Forms.{forms}
use Rattle.strategy_parse.proofs.StuckLemmas.{Taking}
use Rattle.strategy_parse.proofs.parser.stuck.pass.Given as goal

abbrev pub invariant-loop-token : goal.invariant-loop-token
invariant-loop-token l = Taking l.fn.first l.tokens l.state (forms l.stack) l.left

abbrev pub decreases-loop-token : goal.decreases-loop-token
decreases-loop-token l = length l.left
