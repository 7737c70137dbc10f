use Rattle.std.proofs.Common.{◌≡◌, ◌+◌, length}
use Rattle.strategy_tokens.specs.Tokens.{ident_len}
use Rattle.strategy_tokens.proofs.scan.ident_length.Given as goal

abbrev pub invariant-loop-first : goal.invariant-loop-first
invariant-loop-first l = ident_len l.text + length l.rest ≡ length l.text + ident_len l.rest

abbrev pub decreases-loop-first : goal.decreases-loop-first
decreases-loop-first l = length l.rest
