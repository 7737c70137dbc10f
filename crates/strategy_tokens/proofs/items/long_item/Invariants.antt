use Rattle.std.proofs.Common.{◌≡◌, ◌+◌, ◌≤◌, length}
use Rattle.strategy_tokens.specs.declared.TheConstants.{MAX_TOKENS}
use Rattle.strategy_tokens.specs.Items.{runs_fit, items_fit}
use Rattle.strategy_tokens.specs.Tokens.{tokens}
use Rattle.strategy_tokens.proofs.items.long_item.Given as goal

-- what the rest of the text decides; no run is too long so far, and there are no more tokens than bytes
abbrev pub invariant-loop-first : goal.invariant-loop-first
invariant-loop-first l = (runs_fit l.count l.ended (tokens l.left) ≡ items_fit (tokens l.text))
    × (l.count ≤ MAX_TOKENS) × (l.number + length l.left ≤ length l.text)

abbrev pub decreases-loop-first : goal.decreases-loop-first
decreases-loop-first l = length l.left
