-- Tests for signs and reserved words.
use Rattle.std.specs.Prelude.{ℕ, ◌==◌, Bool, false}
use Rattle.strategy_tokens.specs.declared.token.Token.{Token}
use Rattle.strategy_tokens.specs.declared.token.Token.TheVariants.{Ident, Wildcard, Reserved, Integer, Text, Sign as ASign, Bad}
use Rattle.strategy_tokens.specs.declared.token.Keyword.{Keyword}
use Rattle.strategy_tokens.specs.declared.token.Keyword.TheVariants.{Module, Signature, Sorts, Constructors, Rules, Strategies, Id, Fail, All, One, Some as KSome, Not, Where, Test, If, Then, Else, End, Rec, Prim}
use Rattle.strategy_tokens.specs.declared.token.Sign.{Sign}
use Rattle.strategy_tokens.specs.declared.token.Sign.TheVariants.{OpenRound, CloseRound, OpenSquare, CloseSquare, OpenCurly, CloseCurly, Comma, Semicolon, Colon, Bar, Equals, FatArrow, Arrow, Less, Greater, LeftChoice, Plus, Star, Question, Exclamation, At, Backslash}

-- the number of a sign, in the order of its declaration
abbrev pub sign_code : Sign → ℕ
sign_code OpenRound = 0
sign_code CloseRound = 1
sign_code OpenSquare = 2
sign_code CloseSquare = 3
sign_code OpenCurly = 4
sign_code CloseCurly = 5
sign_code Comma = 6
sign_code Semicolon = 7
sign_code Colon = 8
sign_code Bar = 9
sign_code Equals = 10
sign_code FatArrow = 11
sign_code Arrow = 12
sign_code Less = 13
sign_code Greater = 14
sign_code LeftChoice = 15
sign_code Plus = 16
sign_code Star = 17
sign_code Question = 18
sign_code Exclamation = 19
sign_code At = 20
sign_code Backslash = 21

abbrev pub word_code : Keyword → ℕ
word_code Module = 0
word_code Signature = 1
word_code Sorts = 2
word_code Constructors = 3
word_code Rules = 4
word_code Strategies = 5
word_code Id = 6
word_code Fail = 7
word_code All = 8
word_code One = 9
word_code KSome = 10
word_code Not = 11
word_code Where = 12
word_code Test = 13
word_code If = 14
word_code Then = 15
word_code Else = 16
word_code End = 17
word_code Rec = 18
word_code Prim = 19

abbrev pub is_mark : Sign → Token → Bool
is_mark s (ASign r) = sign_code r == sign_code s
is_mark s (Ident f) = false
is_mark s Wildcard = false
is_mark s (Reserved k) = false
is_mark s (Integer z) = false
is_mark s (Text f) = false
is_mark s Bad = false

abbrev pub is_word : Keyword → Token → Bool
is_word k (Reserved j) = word_code j == word_code k
is_word k (Ident f) = false
is_word k Wildcard = false
is_word k (Integer z) = false
is_word k (Text f) = false
is_word k (ASign r) = false
is_word k Bad = false
