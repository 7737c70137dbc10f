use Rattle.std.proofs.Common.{◌≡◌, ◌+◌, ◌≤◌, length}
use Rattle.strategy_parse.specs.inside.ModuleFronts.{sorts_at, sorts_from}
use Rattle.strategy_parse.proofs.modules.sorts.skip_sorts.Given as goal

-- the rest gives what the whole gave, and no more sorts are counted than there are tokens
abbrev pub invariant-loop-token : goal.invariant-loop-token
invariant-loop-token l = (sorts_from l.place l.depth l.count l.left ≡ sorts_at l.tokens)
    × (l.depth + length l.left ≤ length l.tokens) × (l.count + length l.left ≤ 1 + length l.tokens)

abbrev pub decreases-loop-token : goal.decreases-loop-token
decreases-loop-token l = length l.left
