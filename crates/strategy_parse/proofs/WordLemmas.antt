-- A reserved word that comes first.
use Rattle.std.proofs.Common.{◌≡◌, true, false, ap, ◌∙◌, List, [], ◌∷◌}
use Rattle.strategy_tokens.specs.declared.token.Token.{Token}
use Rattle.strategy_tokens.specs.declared.token.Token.TheVariants.{Reserved}
use Rattle.strategy_tokens.specs.declared.token.Keyword.{Keyword}
use Rattle.strategy_tokens.specs.Marks.{is_word}
use Rattle.strategy_parse.specs.inside.NextToken.{next_token}
use Rattle.strategy_tokens.proofs.MarkLemmas.{word_is}

pub word_first : (w : Keyword) (x : List Token) (t : Token) (ts : List Token)
    → x ≡ t ∷ ts → is_word w t ≡ true → x ≡ Reserved w ∷ ts
word_first w x t ts h e = h ∙ ap (λ u. u ∷ ts) (word_is w t e)

pub other_first : (w : Keyword) (x : List Token) (t : Token) (ts : List Token)
    → x ≡ t ∷ ts → is_word w t ≡ false → is_word w (next_token x) ≡ false
other_first w x t ts h e = ap (λ l. is_word w (next_token l)) h ∙ e

pub none_first : (w : Keyword) (x : List Token) → x ≡ [] → is_word w (next_token x) ≡ false
none_first w x h = ap (λ l. is_word w (next_token l)) h

pub ruleset word_rules = (word_first, other_first, none_first)
