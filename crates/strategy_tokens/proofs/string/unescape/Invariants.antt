use Rattle.std.proofs.Common.{◌≡◌, length}
use Rattle.std.specs.List.{prefix_len}
use Rattle.strategy_tokens.specs.Tokens.{unescaped}
use Rattle.strategy_tokens.specs.inside.Pieces.{is_no_backslash}
use Rattle.strategy_tokens.proofs.StringLemmas.{after}
use Rattle.strategy_tokens.proofs.string.unescape.Given as goal

-- the bytes read so far, followed by those of the rest, are all bytes; the rest is empty or begins
-- with a backslash
abbrev pub invariant-loop-after : goal.invariant-loop-after
invariant-loop-after l = (unescaped l.items ≡ after l.bytes.items (unescaped l.rest))
    × (prefix_len is_no_backslash l.rest ≡ 0)

abbrev pub decreases-loop-after : goal.decreases-loop-after
decreases-loop-after l = length l.rest
