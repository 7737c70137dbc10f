use Rattle.std.proofs.Common.{◌≡◌, length}
use Rattle.strategy_parse.specs.inside.Forms.{forms}
use Rattle.strategy_parse.specs.inside.Parser as machine
use Rattle.strategy_parse.proofs.parser.after.after_choice.Given as goal

abbrev pub invariant-loop-second : goal.invariant-loop-second
invariant-loop-second l =
    machine.after_choice l.strategy (forms l.stack) l.token ≡ machine.after_choice l.fn.last (forms l.fn.stack) l.token

abbrev pub decreases-loop-second : goal.decreases-loop-second
decreases-loop-second l = length (forms l.stack)
