use Rattle.std.proofs.Common.{◌≡◌, ◌+◌, ◌≤◌, length}
use Rattle.strategy_tokens.specs.Tokens.{tokens}
use Rattle.strategy_tokens.proofs.count.token_count.Given as goal

-- the tokens so far and those of the rest are all tokens, and there are no more of them than bytes
abbrev pub invariant-loop-first : goal.invariant-loop-first
invariant-loop-first l = (l.count + length (tokens l.left) ≡ length (tokens l.text))
    × (l.count + length l.left ≤ length l.text)

abbrev pub decreases-loop-first : goal.decreases-loop-first
decreases-loop-first l = length l.left
