-- The token that a piece of a text stands for.
use Rattle.std.specs.Prelude.{ℕ, Bool, not, ◌==◌, Some, None, IsTrue}
use Rattle.std.specs.declared.option.Option.{Option}
use Rattle.term_core.specs.Word.{is_word}
use Rattle.aterm_text.specs.Signs.{backslash}
use Rattle.strategy_tokens.specs.declared.token.Token.{Token}
use Rattle.strategy_tokens.specs.declared.token.Token.TheVariants.{Integer, Sign as ASign, Bad}
use Rattle.strategy_tokens.specs.declared.scan.Scanned.{Scanned}
use Rattle.strategy_tokens.specs.declared.scan.Scanned.TheVariants.{White, Word, Integer as PInteger, Text as PText, Sign as PSign, Bad as PBad}
use Rattle.strategy_tokens.specs.Tokens.{ident_token, text_or_bad, unescaped}

-- none for white space
abbrev pub piece_token : Scanned → Option Token
piece_token White = None
piece_token (Word x) = Some (ident_token x.now)
piece_token (PInteger z) = Some (Integer z)
piece_token (PText x) = Some (text_or_bad (unescaped x.now))
piece_token (PSign s) = Some (ASign s)
piece_token PBad = Some Bad

-- the bytes of an identifier are a word, as a name's are
abbrev pub HoldsWord : Scanned → Type 0
HoldsWord White = Unit {0}
HoldsWord (Word x) = IsTrue (is_word x.now)
HoldsWord (PInteger z) = Unit {0}
HoldsWord (PText x) = Unit {0}
HoldsWord (PSign s) = Unit {0}
HoldsWord PBad = Unit {0}

-- a byte that stands for itself between quotes
abbrev pub is_no_backslash : ℕ → Bool
is_no_backslash b = not (b == backslash)
