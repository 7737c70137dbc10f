use Rattle.std.proofs.Common.{◌≡◌, ◌-◌, ◌≤◌, length}
use Rattle.strategy_tokens.specs.Tokens.{quote_at}
use Rattle.strategy_tokens.proofs.ScanLemmas.{later}
use Rattle.strategy_tokens.proofs.scan.quote_position.Given as goal

abbrev pub invariant-loop-first : goal.invariant-loop-first
invariant-loop-first l = (length l.rest ≤ length l.text)
    × (quote_at l.text ≡ later (length l.text - length l.rest) (quote_at l.rest))

abbrev pub decreases-loop-first : goal.decreases-loop-first
decreases-loop-first l = length l.rest
