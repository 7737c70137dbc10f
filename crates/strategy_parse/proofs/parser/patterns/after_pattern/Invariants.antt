use Rattle.std.proofs.Common.{◌≡◌, length}
use Rattle.strategy_parse.specs.inside.Forms.{forms}
use Rattle.strategy_parse.specs.inside.Parser as machine
use Rattle.strategy_parse.proofs.parser.patterns.after_pattern.Given as goal

abbrev pub invariant-loop-name : goal.invariant-loop-name
invariant-loop-name l =
    machine.after_pattern l.pattern (forms l.stack) l.token ≡ machine.after_pattern l.fn.last (forms l.fn.stack) l.token

abbrev pub decreases-loop-name : goal.decreases-loop-name
decreases-loop-name l = length (forms l.stack)
