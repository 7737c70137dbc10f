-- Laws of the tokens of a text.
use Rattle.std.specs.Prelude.{◌≡◌, ◌+◌, ◌≤◌, ℕ, List, ◌++◌, length, take, Some}
use Rattle.std.specs.List.{slice_get}
use Rattle.strategy_tokens.specs.Tokens.{tokens}
use Rattle.strategy_tokens.specs.declared.place.TokenPlace.{TokenPlace}
use Rattle.strategy_tokens.specs.Places.{places}

-- A text that agrees with another one up to at least two bytes after a token has the same tokens
-- up to that one.
abbrev pub SameTokens : Type 0
SameTokens =
    (x y z : List ℕ) (k : ℕ) (p : TokenPlace) → slice_get (places (x ++ y)) k ≡ Some p → p.end + 2 ≤ length x
    → take (k + 1) (tokens (x ++ z)) ≡ take (k + 1) (tokens (x ++ y))
