-- The next token.
use Rattle.std.specs.Prelude.{false, ◌≡◌, List, [], ◌∷◌}
use Rattle.strategy_tokens.specs.declared.token.Token.{Token}
use Rattle.strategy_tokens.specs.declared.token.Token.TheVariants.{Bad}
use Rattle.strategy_tokens.specs.declared.token.Sign.{Sign}
use Rattle.strategy_tokens.specs.Marks.{is_mark}

-- the next token: a bad one at the end of a text
abbrev pub next_token : List Token → Token
next_token [] = Bad
next_token (t ∷ ts) = t

-- it isn't this sign
abbrev pub NoMark : Sign → List Token → Type 0
NoMark m y = is_mark m (next_token y) ≡ false
