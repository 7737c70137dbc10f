-- How many tokens a module text may have. An item of it, as a definition, has no more than a strategy may have, since
-- forms are nested as deep as they are long. A text isn't parsed for that: where an item may begin is seen from the two
-- tokens there.
use Rattle.std.specs.Prelude.{ℕ, suc, nat_le, max, min, ◌&&◌, Bool, true, false, List, [], ◌∷◌, if◌then◌else◌}
use Rattle.strategy_tokens.specs.declared.TheConstants.{MAX_TOKENS, MODULE_TOKENS}
use Rattle.strategy_tokens.specs.declared.token.Token.{Token}
use Rattle.strategy_tokens.specs.declared.token.Token.TheVariants.{Ident, Wildcard, Reserved, Integer, Text, Sign as ASign, Bad}
use Rattle.strategy_tokens.specs.declared.token.Keyword.{Keyword}
use Rattle.strategy_tokens.specs.declared.token.Keyword.TheVariants.{Signature, Sorts, Constructors, Rules, Strategies, Id, Fail, End}
use Rattle.strategy_tokens.specs.declared.token.Sign.TheVariants.{CloseRound, CloseSquare, CloseCurly}

abbrev pub is_section : Keyword → Bool
is_section Signature = true
is_section Sorts = true
is_section Constructors = true
is_section Rules = true
is_section Strategies = true
is_section k = false

-- A strategy, a pattern or a declaration may end with this token. Bad ones are among them: a text with one is no
-- module.
abbrev pub may_end : Token → Bool
may_end (Reserved Id) = true
may_end (Reserved Fail) = true
may_end (Reserved End) = true
may_end (Reserved k) = false
may_end (ASign CloseRound) = true
may_end (ASign CloseSquare) = true
may_end (ASign CloseCurly) = true
may_end (ASign s) = false
may_end (Ident f) = true
may_end Wildcard = true
may_end (Integer z) = true
may_end (Text f) = true
may_end Bad = true

-- An item may begin with this token: a section with its word, a declaration or a definition with a name, if the token
-- before it may end a form. Within an item no name follows such a token.
abbrev pub begins_item : Bool → Token → Bool
begins_item ended (Reserved k) = is_section k
begins_item ended (Ident f) = ended
begins_item ended t = false

-- After n tokens in which no item begins, of which the last may end a form or not, there are nowhere more than the most
-- in a row.
abbrev pub runs_fit : ℕ → Bool → List Token → Bool
runs_fit n ended [] = nat_le n MAX_TOKENS
runs_fit n ended (t ∷ ts) =
    if begins_item ended t then nat_le n MAX_TOKENS && runs_fit 1 (may_end t) ts else runs_fit (suc n) (may_end t) ts

abbrev pub items_fit : List Token → Bool
items_fit ts = runs_fit 0 false ts

-- The most tokens of a module text where so many are asked for: no fewer than a strategy may have, no more than any
-- module may have.
abbrev pub module_tokens : ℕ → List Token → ℕ
module_tokens most ts = if items_fit ts then max MAX_TOKENS (min most MODULE_TOKENS) else MAX_TOKENS
