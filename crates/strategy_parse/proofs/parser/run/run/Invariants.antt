use Rattle.std.proofs.Common.{◌≡◌, length}
use Rattle.strategy_parse.specs.inside.Forms.{forms}
use Rattle.strategy_parse.specs.inside.Parser.{front, step as step_of}
use Rattle.strategy_parse.proofs.parser.run.run.Given as goal

-- the rest gives what the whole gave
abbrev pub invariant-loop-token : goal.invariant-loop-token
invariant-loop-token l =
    front (step_of l.state (forms l.stack)) l.left ≡ front (step_of l.fn.first (forms l.fn.bottom)) l.tokens

abbrev pub decreases-loop-token : goal.decreases-loop-token
decreases-loop-token l = length l.left
