use Rattle.std.proofs.Common.{◌≡◌, drop}
use Rattle.strategy_check.specs.inside.Mentioned.{mentioned_in_bodies}
use Rattle.strategy_check.proofs.mentions.mention_in_bodies.Given as goal

-- the rest gives what the whole gave
abbrev pub invariant-loop-definition : goal.invariant-loop-definition
invariant-loop-definition l =
    mentioned_in_bodies l.mentioned (drop l.definition-index l.definitions)
    ≡ mentioned_in_bodies l.fn.mentioned l.definitions
