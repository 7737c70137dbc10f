use Rattle.std.proofs.Common.{◌≡◌, ◌+◌, ◌≤◌, length}
use Rattle.strategy_parse.specs.inside.ModuleFronts.{kept_at, kept_from}
use Rattle.strategy_parse.specs.inside.Stacked.{stack_of}
use Rattle.strategy_parse.proofs.modules.sorts.read_sorts.Given as goal

-- the rest gives what the whole gave, and no more brackets are open than there were tokens
abbrev pub invariant-loop-token : goal.invariant-loop-token
invariant-loop-token l = (kept_from l.place l.depth (stack_of l.stack) l.left ≡ kept_at l.tokens)
    × (l.depth + length l.left ≤ length l.tokens)

abbrev pub decreases-loop-token : goal.decreases-loop-token
decreases-loop-token l = length l.left
