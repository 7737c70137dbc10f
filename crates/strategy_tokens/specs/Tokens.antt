-- The tokens of strategy and module texts. A text is a sequence of pieces, each as long as
-- possible: white space, comments, which count as white space, and tokens.
use Rattle.std.specs.Prelude.{ℕ, zero, suc, ℤ, pos, negsuc, ◌^◌, ◌==◌, ◌||◌, ◌&&◌, not, nat_lt, Bool, true, false, List, [], ◌∷◌, ◌++◌, length, take, Some, None, option_and_then, if◌then◌else◌, codes}
use Rattle.std.specs.declared.option.Option.{Option}
use Rattle.std.specs.Char.{is_ascii_alphanumeric, is_ascii_digit}
use Rattle.std.specs.List.{prefix_len}
use Rattle.std.specs.Option.{option_map, option_map_or}
use Rattle.std.specs.Str.{bytes_eq}
use Rattle.std.specs.Str.Parse.{signed_digits_value}
use Rattle.term_core.specs.Word.{begins_word}
use Rattle.aterm_text.specs.Signs.{quote, backslash, minus, comma, open_round, close_round, open_square, close_square, open_curly, close_curly}
use Rattle.aterm_text.specs.Tokens.{is_blank, octal_byte, short_escape}
use Rattle.strategy_tokens.specs.declared.token.Token.{Token}
use Rattle.strategy_tokens.specs.declared.token.Token.TheVariants.{Ident, Wildcard, Reserved, Integer, Text, Sign as ASign, Bad}
use Rattle.strategy_tokens.specs.declared.token.Keyword.{Keyword}
use Rattle.strategy_tokens.specs.declared.token.Keyword.TheVariants.{Module, Signature, Sorts, Constructors, Rules, Strategies, Id, Fail, All, One, Some as KSome, Not, Where, Test, If, Then, Else, End, Rec, Prim}
use Rattle.strategy_tokens.specs.declared.token.Sign.{Sign}
use Rattle.strategy_tokens.specs.declared.token.Sign.TheVariants.{OpenRound, CloseRound, OpenSquare, CloseSquare, OpenCurly, CloseCurly, Comma, Semicolon, Colon, Bar, Equals, FatArrow, Arrow, Less, Greater, LeftChoice, Plus, Star, Question, Exclamation, At, Backslash}

-- What begins at a place, a token or white space without one, and the number of its bytes after the
-- first.
pub record Lexeme : Type 0 where
  pub token : Option Token
  pub more : ℕ

abbrev pub white : ℕ → Lexeme
white n = record { token = None; more = n }

abbrev pub token_of : Token → ℕ → Lexeme
token_of t n = record { token = Some t; more = n }

-- ---- white space, which is that of term texts, and comments

abbrev pub is_no_line_feed : ℕ → Bool
is_no_line_feed b = not (b == 10)

-- the text begins with this byte
abbrev pub begins_with : ℕ → List ℕ → Bool
begins_with b [] = false
begins_with b (c ∷ cs) = c == b

-- the bytes of a comment up to and including its `*/`, if there is one
abbrev pub comment_len : List ℕ → Option ℕ
comment_len [] = None
comment_len (b ∷ bs) =
    if b == 42 && begins_with 47 bs then Some 2 else option_map suc (comment_len bs)

-- a comment that isn't closed extends to the end of the text
abbrev pub closed_comment : Option ℕ → ℕ → Lexeme
closed_comment (Some n) rest = white (suc n)
closed_comment None rest = token_of Bad (suc rest)

-- after a `/`: `//` extends to the end of the line, `/*` to the next `*/`
abbrev pub comment_piece : List ℕ → Lexeme
comment_piece [] = token_of Bad 0
comment_piece (b ∷ bs) =
    if b == 47 then white (suc (prefix_len is_no_line_feed bs)) else
    if b == 42 then closed_comment (comment_len bs) (length bs) else token_of Bad 0

-- ---- identifiers and reserved words

-- An identifier begins as a word of the term format does. It continues with letters, digits, `_`,
-- `'` and `-`; but a `-` followed by `>` doesn't belong to it.
abbrev pub continues_ident : ℕ → List ℕ → Bool
continues_ident b bs =
    is_ascii_alphanumeric b || b == 95 || b == 39 || (b == minus && not (begins_with 62 bs))

-- the number of leading bytes that continue an identifier
abbrev pub ident_len : List ℕ → ℕ
ident_len [] = 0
ident_len (b ∷ bs) = if continues_ident b bs then suc (ident_len bs) else 0

-- the value for a key in a table, by a test of keys
abbrev pub found_in : {K X : Type 0} → (K → K → Bool) → List (K × X) → K → Option X
found_in same [] key = None
found_in same (row ∷ rows) key = if same key row.0 then Some row.1 else found_in same rows key

abbrev pub module_keywords : List (List ℕ × Keyword)
module_keywords =
    (codes "module", Module) ∷ (codes "signature", Signature) ∷ (codes "sorts", Sorts)
    ∷ (codes "constructors", Constructors) ∷ (codes "rules", Rules)
    ∷ (codes "strategies", Strategies) ∷ []

abbrev pub strategy_keywords : List (List ℕ × Keyword)
strategy_keywords =
    (codes "id", Id) ∷ (codes "fail", Fail) ∷ (codes "all", All) ∷ (codes "one", One)
    ∷ (codes "some", KSome) ∷ (codes "not", Not) ∷ (codes "where", Where) ∷ (codes "test", Test)
    ∷ (codes "if", If) ∷ (codes "then", Then) ∷ (codes "else", Else) ∷ (codes "end", End)
    ∷ (codes "rec", Rec) ∷ (codes "prim", Prim) ∷ []

-- the reserved word of these bytes, if they are one
abbrev pub keyword_of : List ℕ → Option Keyword
keyword_of x = found_in bytes_eq (module_keywords ++ strategy_keywords) x

-- the token of an identifier; `_` alone is the wildcard
abbrev pub ident_token : List ℕ → Token
ident_token x =
    if bytes_eq x (codes "_") then Wildcard
    else option_map_or Reserved (keyword_of x) (Ident (record { text = x; is_quoted = false }))

-- ---- integers

abbrev pub is_in_range : ℤ → Bool
is_in_range (pos n) = nat_lt n (2 ^ 63)
is_in_range (negsuc n) = nat_lt n (2 ^ 63)

-- the token of an integer's bytes, its `-` included; leading zeros are accepted, and `-0` is 0
abbrev pub integer_token : List ℕ → Token
integer_token x =
    let z = signed_digits_value 10 x in if is_in_range z then Integer z else Bad

-- after a `-`: `->`, or an integer if a digit follows
abbrev pub minus_piece : List ℕ → Lexeme
minus_piece [] = token_of Bad 0
minus_piece (b ∷ bs) =
    if b == 62 then token_of (ASign Arrow) 1 else
    if is_ascii_digit b
    then (let n = prefix_len is_ascii_digit bs in
    token_of (integer_token (minus ∷ b ∷ take n bs)) (suc n))
    else token_of Bad 0

-- ---- strings

-- this byte, followed by those
abbrev pub and_byte : ℕ → Option (List ℕ) → Option (List ℕ)
and_byte b = option_map (λ l. b ∷ l)

-- The bytes that the items between the quotes stand for: any byte but a backslash stands for
-- itself; after a backslash comes one of `" \ n t r`, or three octal digits. Nothing if an escape
-- is invalid.
abbrev mutual
  pub unescaped : List ℕ → Option (List ℕ)
  unescaped [] = Some []
  unescaped (b ∷ bs) = if b == backslash then after_backslash bs else and_byte b (unescaped bs)

  pub after_backslash : List ℕ → Option (List ℕ)
  after_backslash [] = None
  after_backslash (b ∷ bs) = option_map_or (λ c. and_byte c (unescaped bs)) (short_escape b) (after_octal b bs)

  pub after_octal : ℕ → List ℕ → Option (List ℕ)
  after_octal a [] = None
  after_octal a (b ∷ []) = None
  after_octal a (b ∷ c ∷ bs) = option_and_then (λ d. and_byte d (unescaped bs)) (octal_byte a b c)

-- the number of bytes before the next `"` that isn't escaped, if there is one
abbrev mutual
  pub quote_at : List ℕ → Option ℕ
  quote_at [] = None
  quote_at (b ∷ bs) =
      if b == quote then Some 0 else
      if b == backslash then option_map suc (quote_after bs) else option_map suc (quote_at bs)

  pub quote_after : List ℕ → Option ℕ
  quote_after [] = None
  quote_after (b ∷ bs) = option_map suc (quote_at bs)

abbrev pub text_or_bad : Option (List ℕ) → Token
text_or_bad None = Bad
text_or_bad (Some bytes) = Text (record { text = bytes; is_quoted = true })

-- a string that isn't closed extends to the end of the text
abbrev pub closed_string : Option ℕ → List ℕ → Lexeme
closed_string None bs = token_of Bad (length bs)
closed_string (Some n) bs = token_of (text_or_bad (unescaped (take n bs))) (suc n)

-- ---- signs

abbrev pub short_signs : List (ℕ × Sign)
short_signs =
    (open_round, OpenRound) ∷ (close_round, CloseRound) ∷ (open_square, OpenSquare)
    ∷ (close_square, CloseSquare) ∷ (open_curly, OpenCurly) ∷ (close_curly, CloseCurly)
    ∷ (comma, Comma) ∷ (59, Semicolon) ∷ (58, Colon) ∷ (124, Bar) ∷ (61, Equals)
    ∷ (60, Less) ∷ (62, Greater) ∷ (43, Plus) ∷ (42, Star) ∷ (63, Question)
    ∷ (33, Exclamation) ∷ (64, At) ∷ (backslash, Backslash) ∷ []

-- the token of a byte that begins no other
abbrev pub short_sign : ℕ → Token
short_sign b = option_map_or ASign (found_in (λ c d. c == d) short_signs b) Bad

-- `=>`, `<+` or a sign of one byte
abbrev pub sign_piece : ℕ → List ℕ → Lexeme
sign_piece b bs =
    if b == 61 && begins_with 62 bs then token_of (ASign FatArrow) 1 else
    if b == 60 && begins_with 43 bs then token_of (ASign LeftChoice) 1 else
    token_of (short_sign b) 0

-- ---- the tokens of a text

-- what begins with this byte, followed by these
abbrev pub piece_at : ℕ → List ℕ → Lexeme
piece_at b bs =
    if is_blank b then white 0 else
    if b == 47 then comment_piece bs else
    if begins_word b
    then (let n = ident_len bs in token_of (ident_token (b ∷ take n bs)) n) else
    if is_ascii_digit b
    then (let n = prefix_len is_ascii_digit bs in token_of (integer_token (b ∷ take n bs)) n) else
    if b == minus then minus_piece bs else
    if b == quote then closed_string (quote_at bs) bs else sign_piece b bs

abbrev pub and_token : Option Token → List Token → List Token
and_token None ts = ts
and_token (Some t) ts = t ∷ ts

-- the tokens after the first n bytes
abbrev pub tokens_after : ℕ → List ℕ → List Token
tokens_after n [] = []
tokens_after (suc n) (b ∷ bs) = tokens_after n bs
tokens_after zero (b ∷ bs) =
    let piece = piece_at b bs in and_token piece.token (tokens_after piece.more bs)

abbrev pub tokens : List ℕ → List Token
tokens x = tokens_after 0 x
