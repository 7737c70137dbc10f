use Rattle.std.proofs.Common.{◌≡◌, ◌≤◌, ◌++◌, length}
use Rattle.strategy_tokens.specs.Tokens.{tokens}
use Rattle.strategy_tokens.proofs.read.read_up_to.Given as goal

-- the tokens so far and those of the rest are all tokens
abbrev pub invariant-loop-first : goal.invariant-loop-first
invariant-loop-first l = (l.found.items ++ tokens l.left ≡ tokens l.text)
    × (length l.found.items ≤ l.most)

abbrev pub decreases-loop-first : goal.decreases-loop-first
decreases-loop-first l = length l.left
