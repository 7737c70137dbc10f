use Rattle.std.proofs.Common.{◌≡◌, ◌-◌, ◌≤◌, length}
use Rattle.strategy_tokens.specs.Tokens.{comment_len}
use Rattle.strategy_tokens.proofs.ScanLemmas.{later}
use Rattle.strategy_tokens.proofs.scan.comment_length.Given as goal

abbrev pub invariant-loop-first : goal.invariant-loop-first
invariant-loop-first l = (length l.rest ≤ length l.text)
    × (comment_len l.text ≡ later (length l.text - length l.rest) (comment_len l.rest))

abbrev pub decreases-loop-first : goal.decreases-loop-first
decreases-loop-first l = length l.rest
