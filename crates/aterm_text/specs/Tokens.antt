-- The tokens of a text of the ATerm format. White space may come before any of them, and a token is
-- as long as possible.
use Rattle.std.specs.Prelude.{◌≡◌, ℕ, ℤ, ◌+◌, ◌*◌, ◌-◌, ◌==◌, ◌||◌, ◌&&◌, nat_lt, Bool, List, [], ◌∷◌, drop, take, Some, None, if◌then◌else◌, FitsSigned, MatchBool}
use Rattle.std.specs.Int.{w64}
use Rattle.std.specs.declared.option.Option.{Option}
use Rattle.std.specs.Char.{is_ascii_digit}
use Rattle.std.specs.List.{prefix_len}
use Rattle.std.specs.Option.{option_map, option_map_or}
use Rattle.std.specs.Str.Parse.{IsNumeral, without_leading_sign, signed_digits_value}
use Rattle.term_core.specs.Word.{first_word}
use Rattle.term_core.specs.Tree.{Symbol}
use Rattle.aterm_text.specs.Signs.{quote, backslash, minus}

-- ---- white space

-- space, tab, line feed and carriage return
abbrev pub is_blank : ℕ → Bool
is_blank b = b == 32 || b == 9 || b == 10 || b == 13

-- the text without its leading white space
abbrev pub without_blanks : List ℕ → List ℕ
without_blanks x = drop (prefix_len is_blank x) x

-- nothing but white space
abbrev pub IsBlank : List ℕ → Type 0
IsBlank x = without_blanks x ≡ []

-- ---- signs

-- the sign b comes first in x, and y is the rest
abbrev pub NextSign : ℕ → List ℕ → List ℕ → Type 0
NextSign b x y = without_blanks x ≡ b ∷ y

-- ---- integers

-- the length of the optional `-` and the digits after it
abbrev pub integer_len : List ℕ → ℕ
integer_len [] = 0
integer_len (b ∷ bs) =
    if b == minus then 1 + prefix_len is_ascii_digit bs else prefix_len is_ascii_digit (b ∷ bs)

-- These bytes are an integer: at least one digit, after an optional `-`. Leading zeros are
-- accepted, and `-0` is 0.
abbrev pub IsInteger : List ℕ → ℤ → Type 0
IsInteger text z =
    IsNumeral 10 (without_leading_sign text) × (signed_digits_value 10 text ≡ z) × FitsSigned w64 z

-- the integer z comes first in x, and y is the rest
abbrev pub NextInteger : ℤ → List ℕ → List ℕ → Type 0
NextInteger z x y =
    let text = without_blanks x in
    IsInteger (take (integer_len text) text) z × (y ≡ drop (integer_len text) text)

-- ---- quoted bytes

abbrev pub is_octal_digit : ℕ → Bool
is_octal_digit b = nat_lt 47 b && nat_lt b 56

abbrev pub are_octal_digits : ℕ → ℕ → ℕ → Bool
are_octal_digits a b c = is_octal_digit a && is_octal_digit b && is_octal_digit c

abbrev pub octal_value : ℕ → ℕ → ℕ → ℕ
octal_value a b c = 64 * (a - 48) + 8 * (b - 48) + (c - 48)

-- three octal digits of value at most 255 stand for one byte
abbrev pub octal_byte : ℕ → ℕ → ℕ → Option ℕ
octal_byte a b c =
    if are_octal_digits a b c && nat_lt (octal_value a b c) 256
    then Some (octal_value a b c) else None

-- the byte that one of `" \ n t r` stands for after a backslash
abbrev pub short_escape : ℕ → Option ℕ
short_escape b =
    if b == quote then Some quote else
    if b == backslash then Some backslash else
    if b == 110 then Some 10 else
    if b == 116 then Some 9 else
    if b == 114 then Some 13 else None

abbrev pub octal_at : List ℕ → Option (ℕ × List ℕ)
octal_at [] = None
octal_at (a ∷ []) = None
octal_at (a ∷ b ∷ []) = None
octal_at (a ∷ b ∷ c ∷ rest) = option_map (λ byte. (byte, rest)) (octal_byte a b c)

-- what follows a backslash: one of `" \ n t r`, or three octal digits
abbrev pub escape_at : List ℕ → Option (ℕ × List ℕ)
escape_at [] = None
escape_at (b ∷ rest) = option_map_or (λ byte. Some (byte, rest)) (short_escape b) (octal_at (b ∷ rest))

-- the first item between quotes, as the byte that it stands for, and the rest: any byte but a quote
-- and a backslash stands for itself
abbrev pub item_at : List ℕ → Option (ℕ × List ℕ)
item_at [] = None
item_at (b ∷ rest) =
    if b == quote then None else if b == backslash then escape_at rest else Some (b, rest)

-- items that stand for these bytes come first in x, then a quote, and y is the rest
abbrev pub ReadsItems : List ℕ → List ℕ → List ℕ → Type 0
ReadsItems [] x y = x ≡ quote ∷ y
ReadsItems (b ∷ bs) x y = (a : List ℕ) × (item_at x ≡ Some (b, a)) × ReadsItems bs a y

-- ---- names

-- the word comes first in x, and y is the rest
abbrev pub NextWord : List ℕ → List ℕ → List ℕ → Type 0
NextWord bytes x y = first_word (without_blanks x) ≡ Some (bytes, y)

-- the quoted name of these bytes comes first in x, and y is the rest
abbrev pub NextQuoted : List ℕ → List ℕ → List ℕ → Type 0
NextQuoted bytes x y = (a : List ℕ) × NextSign quote x a × ReadsItems bytes a y

-- the name comes first in x, and y is the rest
abbrev pub NextName : Symbol → List ℕ → List ℕ → Type 0
NextName name x y = MatchBool name.is_quoted (NextQuoted name.text x y) (NextWord name.text x y)
