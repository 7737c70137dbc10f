-- A token that passes the test for a sign or a word is this sign or word.
use Rattle.std.proofs.Common.{◌≡◌, ℕ, ◌==◌, true, refl, sym, ap, ◌∙◌}
use Rattle.std.specs.Prelude.{if◌then◌else◌}
use Rattle.std.proofs.lemmas.Bool.{eqb-true}
use Rattle.strategy_tokens.specs.Marks.{is_mark, is_word, sign_code, word_code}
use Rattle.strategy_tokens.specs.declared.token.Token.{Token}
use Rattle.strategy_tokens.specs.declared.token.Token.TheVariants.{Ident, Wildcard, Reserved, Integer, Text, Sign as ASign, Bad}
use Rattle.strategy_tokens.specs.declared.token.Keyword.{Keyword}
use Rattle.strategy_tokens.specs.declared.token.Keyword.TheVariants.{Module, Signature, Sorts, Constructors, Rules, Strategies, Id, Fail, All, One, Some as KSome, Not, Where, Test, If, Then, Else, End, Rec, Prim}
use Rattle.strategy_tokens.specs.declared.token.Sign.{Sign}
use Rattle.strategy_tokens.specs.declared.token.Sign.TheVariants.{OpenRound, CloseRound, OpenSquare, CloseSquare, OpenCurly, CloseCurly, Comma, Semicolon, Colon, Bar, Equals, FatArrow, Arrow, Less, Greater, LeftChoice, Plus, Star, Question, Exclamation, At, Backslash}

abbrev sign_at : ℕ → Sign
sign_at n =
    if (n == 0) then OpenRound else
    if (n == 1) then CloseRound else
    if (n == 2) then OpenSquare else
    if (n == 3) then CloseSquare else
    if (n == 4) then OpenCurly else
    if (n == 5) then CloseCurly else
    if (n == 6) then Comma else
    if (n == 7) then Semicolon else
    if (n == 8) then Colon else
    if (n == 9) then Bar else
    if (n == 10) then Equals else
    if (n == 11) then FatArrow else
    if (n == 12) then Arrow else
    if (n == 13) then Less else
    if (n == 14) then Greater else
    if (n == 15) then LeftChoice else
    if (n == 16) then Plus else
    if (n == 17) then Star else
    if (n == 18) then Question else
    if (n == 19) then Exclamation else
    if (n == 20) then At else
    Backslash

abbrev word_at : ℕ → Keyword
word_at n =
    if (n == 0) then Module else
    if (n == 1) then Signature else
    if (n == 2) then Sorts else
    if (n == 3) then Constructors else
    if (n == 4) then Rules else
    if (n == 5) then Strategies else
    if (n == 6) then Id else
    if (n == 7) then Fail else
    if (n == 8) then All else
    if (n == 9) then One else
    if (n == 10) then KSome else
    if (n == 11) then Not else
    if (n == 12) then Where else
    if (n == 13) then Test else
    if (n == 14) then If else
    if (n == 15) then Then else
    if (n == 16) then Else else
    if (n == 17) then End else
    if (n == 18) then Rec else
    Prim

sign_at-code : (s : Sign) → sign_at (sign_code s) ≡ s
sign_at-code OpenRound = refl
sign_at-code CloseRound = refl
sign_at-code OpenSquare = refl
sign_at-code CloseSquare = refl
sign_at-code OpenCurly = refl
sign_at-code CloseCurly = refl
sign_at-code Comma = refl
sign_at-code Semicolon = refl
sign_at-code Colon = refl
sign_at-code Bar = refl
sign_at-code Equals = refl
sign_at-code FatArrow = refl
sign_at-code Arrow = refl
sign_at-code Less = refl
sign_at-code Greater = refl
sign_at-code LeftChoice = refl
sign_at-code Plus = refl
sign_at-code Star = refl
sign_at-code Question = refl
sign_at-code Exclamation = refl
sign_at-code At = refl
sign_at-code Backslash = refl

word_at-code : (k : Keyword) → word_at (word_code k) ≡ k
word_at-code Module = refl
word_at-code Signature = refl
word_at-code Sorts = refl
word_at-code Constructors = refl
word_at-code Rules = refl
word_at-code Strategies = refl
word_at-code Id = refl
word_at-code Fail = refl
word_at-code All = refl
word_at-code One = refl
word_at-code KSome = refl
word_at-code Not = refl
word_at-code Where = refl
word_at-code Test = refl
word_at-code If = refl
word_at-code Then = refl
word_at-code Else = refl
word_at-code End = refl
word_at-code Rec = refl
word_at-code Prim = refl

pub mark_self : (s : Sign) → is_mark s (ASign s) ≡ true
mark_self OpenRound = refl
mark_self CloseRound = refl
mark_self OpenSquare = refl
mark_self CloseSquare = refl
mark_self OpenCurly = refl
mark_self CloseCurly = refl
mark_self Comma = refl
mark_self Semicolon = refl
mark_self Colon = refl
mark_self Bar = refl
mark_self Equals = refl
mark_self FatArrow = refl
mark_self Arrow = refl
mark_self Less = refl
mark_self Greater = refl
mark_self LeftChoice = refl
mark_self Plus = refl
mark_self Star = refl
mark_self Question = refl
mark_self Exclamation = refl
mark_self At = refl
mark_self Backslash = refl

pub mark_is : (s : Sign) (t : Token) → is_mark s t ≡ true → t ≡ ASign s
mark_is s (ASign r) e =
    ap ASign (sym (sign_at-code r) ∙ ap sign_at (eqb-true (sign_code r) (sign_code s) e) ∙ sign_at-code s)
mark_is s (Ident f) e = absurd (cc)
mark_is s Wildcard e = absurd (cc)
mark_is s (Reserved k) e = absurd (cc)
mark_is s (Integer z) e = absurd (cc)
mark_is s (Text f) e = absurd (cc)
mark_is s Bad e = absurd (cc)

pub word_is : (k : Keyword) (t : Token) → is_word k t ≡ true → t ≡ Reserved k
word_is k (Reserved j) e =
    ap Reserved (sym (word_at-code j) ∙ ap word_at (eqb-true (word_code j) (word_code k) e) ∙ word_at-code k)
word_is k (Ident f) e = absurd (cc)
word_is k Wildcard e = absurd (cc)
word_is k (ASign s) e = absurd (cc)
word_is k (Integer z) e = absurd (cc)
word_is k (Text f) e = absurd (cc)
word_is k Bad e = absurd (cc)
