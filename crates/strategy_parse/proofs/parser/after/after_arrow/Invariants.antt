use Rattle.std.proofs.Common.{◌≡◌, length}
use Rattle.strategy_parse.specs.inside.Forms.{forms}
use Rattle.strategy_parse.specs.inside.Parser as machine
use Rattle.strategy_parse.proofs.parser.after.after_arrow.Given as goal

abbrev pub invariant-loop-first : goal.invariant-loop-first
invariant-loop-first l =
    machine.after_arrow l.strategy (forms l.stack) l.token ≡ machine.after_arrow l.fn.last (forms l.fn.stack) l.token

abbrev pub decreases-loop-first : goal.decreases-loop-first
decreases-loop-first l = length (forms l.stack)
