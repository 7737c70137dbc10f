-- The grammar of strategy texts, by cases on its productions. Each relation says that a list of
-- tokens begins with the form, and what the rest is.
use Rattle.std.specs.Prelude.{◌≡◌, ◌≤◌, pos, List, [], ◌∷◌, ◌⊎◌}
use Rattle.term_core.specs.Tree.{Symbol, application as applied, list, tuple}
use Rattle.aterm_text.specs.Grammar.{◌▸◌}
use Rattle.strategy_syntax.specs.Syntax.{Pattern, wildcard, variable, at, number, compound, with_tail, annotated, Patterns, no_patterns, and_pattern}
use Rattle.strategy_tokens.specs.declared.token.Token.{Token}
use Rattle.strategy_tokens.specs.declared.token.Token.TheVariants.{Ident, Wildcard, Reserved, Integer, Text, Sign as ASign}
use Rattle.strategy_tokens.specs.declared.token.Keyword.{Keyword}
use Rattle.strategy_tokens.specs.declared.token.Keyword.TheVariants.{Id, Fail, All, One, Some as KSome, Not, Where, Test, If, Then, Else, End, Rec, Prim}
use Rattle.strategy_tokens.specs.declared.token.Sign.{Sign}
use Rattle.strategy_tokens.specs.declared.token.Sign.TheVariants.{OpenRound, CloseRound, OpenSquare, CloseSquare, OpenCurly, CloseCurly, Comma, Semicolon, Colon, Bar, FatArrow, Arrow as RightArrow, Less, Greater, LeftChoice, Plus, Question, Exclamation, At, Backslash}
use Rattle.strategy_parse.specs.declared.parser.state.Operator.{Operator}
use Rattle.strategy_parse.specs.declared.parser.state.Operator.TheVariants.{All as AllOf, One as OneOf, Some as SomeOf, Not as NotOf, Where as WhereOf, Test as TestOf}
use Rattle.strategy_parse.specs.Written.{Choice, sequence, left_choice, guarded_choice, Seq, last, before, Arrow, arrow, Prefix, question, exclamation, application, identity, failure, operator, if_then, if_then_else, recursion, primitive, local, closure, closure_where, round, square, square_with_tail, name, call, call_with_terms, child, Choices, no_choices, and_choice}

-- ---- how readings are combined

-- from a list of tokens to the rest after the form
abbrev pub Reading : Type 1
Reading = List Token → List Token → Type 0

-- the token comes first
abbrev pub Next : Token → Reading
Next t x y = x ≡ t ∷ y

abbrev pub Word : Keyword → Reading
Word k = Next (Reserved k)

abbrev pub Mark : Sign → Reading
Mark s = Next (ASign s)

-- ---- patterns

--   pattern = ident "@" pattern
--           | pbase [ "{" [ pattern { "," pattern } ] "}" ]
--   pbase   = integer | string | "_" | ident
--           | ident "(" [ pattern { "," pattern } ] ")"
--           | "[" [ pattern { "," pattern } [ "|" pattern ] ] "]"
--           | "(" [ pattern { "," pattern } ] ")"

-- a pattern without an annotation part, to which one may be added
abbrev pub IsBase : Pattern → Type 0
IsBase (at x p) = ⊥
IsBase (annotated p ps) = ⊥
IsBase p = Unit {0}

abbrev mutual
  pub ReadsPattern : Pattern → Reading
  ReadsPattern wildcard = Next Wildcard
  ReadsPattern (variable f) = Next (Ident f)
  ReadsPattern (at f p) = Next (Ident f) ▸ Mark At ▸ ReadsPattern p
  ReadsPattern (number z) = Next (Integer z)
  -- a string is its quoted name without patterns
  ReadsPattern (compound (applied f) ps) =
      λ u v.
      (Next (Text f) u v × (ps ≡ no_patterns)) ⊎ (Next (Ident f) ▸ Mark OpenRound ▸ ReadsPatterns ps CloseRound) u v
  ReadsPattern (compound list ps) = Mark OpenSquare ▸ ReadsPatterns ps CloseSquare
  ReadsPattern (compound tuple ps) = Mark OpenRound ▸ ReadsPatterns ps CloseRound
  ReadsPattern (with_tail ps p) =
      Mark OpenSquare ▸ ReadsSomePatterns ps Bar ▸ ReadsPattern p ▸ Mark CloseSquare
  ReadsPattern (annotated p ps) =
      λ u v. IsBase p × (ReadsPattern p ▸ Mark OpenCurly ▸ ReadsPatterns ps CloseCurly) u v

  -- patterns up to a sign: none, or some separated by commas, and the sign
  pub ReadsPatterns : Patterns → Sign → Reading
  ReadsPatterns no_patterns close = Mark close
  ReadsPatterns (and_pattern p ps) close = ReadsPattern p ▸ ReadsMorePatterns ps close

  -- at least one pattern up to a sign
  pub ReadsSomePatterns : Patterns → Sign → Reading
  ReadsSomePatterns no_patterns close = λ u v. ⊥
  ReadsSomePatterns (and_pattern p ps) close = ReadsPattern p ▸ ReadsMorePatterns ps close

  -- the patterns after the first one, each after a comma, and the sign
  pub ReadsMorePatterns : Patterns → Sign → Reading
  ReadsMorePatterns no_patterns close = Mark close
  ReadsMorePatterns (and_pattern p ps) close =
      Mark Comma ▸ ReadsPattern p ▸ ReadsMorePatterns ps close

-- ---- strategies

--   choice  = seq [ "<+" choice | "<" seq "+" choice ]
--   seq     = arrow [ ";" seq ]
--   arrow   = prefix { "=>" pattern }
--   prefix  = "?" pattern | "!" pattern | "<" choice ">" pattern | primary
--   primary = "id" | "fail"
--           | ( "all" | "one" | "some" | "not" | "where" | "test" ) "(" choice ")"
--           | "if" choice "then" choice [ "else" choice ] "end"
--           | "rec" ident "(" choice ")"
--           | "prim" "(" string { "," pattern } ")"
--           | "{" [ ident { "," ident } ] ":" choice "}"
--           | "\" pattern "->" pattern [ "where" choice ] "\"
--           | "(" ")" | "(" choice ")" | "(" choice "," choice { "," choice } ")"
--           | "[" [ choice { "," choice } [ "|" choice ] ] "]"
--           | ident [ "(" [ choice { "," choice } ] [ "|" [ pattern { "," pattern } ] ] ")" ]
--           | integer "(" choice ")"

abbrev pub word_of : Operator → Keyword
word_of AllOf = All
word_of OneOf = One
word_of SomeOf = KSome
word_of NotOf = Not
word_of WhereOf = Where
word_of TestOf = Test

-- the patterns after a prefix, each after a `=>`, as many as there are
abbrev pub ReadsArrows : Patterns → Reading
ReadsArrows no_patterns = λ u v. v ≡ u
ReadsArrows (and_pattern p ps) = Mark FatArrow ▸ ReadsPattern p ▸ ReadsArrows ps

-- identifiers up to a sign: the names after the first one, each after a comma, and the sign
abbrev pub ReadsMoreNames : List Symbol → Sign → Reading
ReadsMoreNames [] close = Mark close
ReadsMoreNames (f ∷ fs) close = Mark Comma ▸ Next (Ident f) ▸ ReadsMoreNames fs close

abbrev pub ReadsNames : List Symbol → Sign → Reading
ReadsNames [] close = Mark close
ReadsNames (f ∷ fs) close = Next (Ident f) ▸ ReadsMoreNames fs close

abbrev mutual
  pub ReadsChoice : Choice → Reading
  ReadsChoice (sequence a) = ReadsSeq a
  ReadsChoice (left_choice a b) = ReadsSeq a ▸ Mark LeftChoice ▸ ReadsChoice b
  ReadsChoice (guarded_choice a b c) =
      ReadsSeq a ▸ Mark Less ▸ ReadsSeq b ▸ Mark Plus ▸ ReadsChoice c

  pub ReadsSeq : Seq → Reading
  ReadsSeq (last a) = ReadsArrow a
  ReadsSeq (before a b) = ReadsArrow a ▸ Mark Semicolon ▸ ReadsSeq b

  pub ReadsArrow : Arrow → Reading
  ReadsArrow (arrow a ps) = ReadsPrefix a ▸ ReadsArrows ps

  pub ReadsPrefix : Prefix → Reading
  ReadsPrefix (question p) = Mark Question ▸ ReadsPattern p
  ReadsPrefix (exclamation p) = Mark Exclamation ▸ ReadsPattern p
  ReadsPrefix (application a p) = Mark Less ▸ ReadsChoice a ▸ Mark Greater ▸ ReadsPattern p
  ReadsPrefix identity = Word Id
  ReadsPrefix failure = Word Fail
  ReadsPrefix (operator o a) = Word (word_of o) ▸ Mark OpenRound ▸ ReadsChoice a ▸ Mark CloseRound
  ReadsPrefix (if_then a b) = Word If ▸ ReadsChoice a ▸ Word Then ▸ ReadsChoice b ▸ Word End
  ReadsPrefix (if_then_else a b c) =
      Word If ▸ ReadsChoice a ▸ Word Then ▸ ReadsChoice b ▸ Word Else ▸ ReadsChoice c ▸ Word End
  ReadsPrefix (recursion f a) =
      Word Rec ▸ Next (Ident f) ▸ Mark OpenRound ▸ ReadsChoice a ▸ Mark CloseRound
  ReadsPrefix (primitive n ps) =
      Word Prim ▸ Mark OpenRound ▸ Next (Text n) ▸ ReadsMorePatterns ps CloseRound
  ReadsPrefix (local fs a) = Mark OpenCurly ▸ ReadsNames fs Colon ▸ ReadsChoice a ▸ Mark CloseCurly
  ReadsPrefix (closure p q) =
      Mark Backslash ▸ ReadsPattern p ▸ Mark RightArrow ▸ ReadsPattern q ▸ Mark Backslash
  ReadsPrefix (closure_where p q a) =
      Mark Backslash ▸ ReadsPattern p ▸ Mark RightArrow ▸ ReadsPattern q ▸ Word Where ▸ ReadsChoice a
      ▸ Mark Backslash
  ReadsPrefix (round cs) = Mark OpenRound ▸ ReadsChoices cs CloseRound
  ReadsPrefix (square cs) = Mark OpenSquare ▸ ReadsChoices cs CloseSquare
  ReadsPrefix (square_with_tail cs a) =
      Mark OpenSquare ▸ ReadsSomeChoices cs Bar ▸ ReadsChoice a ▸ Mark CloseSquare
  ReadsPrefix (name f) = Next (Ident f)
  ReadsPrefix (call f cs) = Next (Ident f) ▸ Mark OpenRound ▸ ReadsChoices cs CloseRound
  ReadsPrefix (call_with_terms f cs ps) =
      Next (Ident f) ▸ Mark OpenRound ▸ ReadsChoices cs Bar ▸ ReadsPatterns ps CloseRound
  ReadsPrefix (child i a) =
      λ u v. (1 ≤ i) × (Next (Integer (pos i)) ▸ Mark OpenRound ▸ ReadsChoice a ▸ Mark CloseRound) u v

  -- strategies up to a sign: none, or some separated by commas, and the sign
  pub ReadsChoices : Choices → Sign → Reading
  ReadsChoices no_choices close = Mark close
  ReadsChoices (and_choice a cs) close = ReadsChoice a ▸ ReadsMoreChoices cs close

  -- at least one strategy up to a sign
  pub ReadsSomeChoices : Choices → Sign → Reading
  ReadsSomeChoices no_choices close = λ u v. ⊥
  ReadsSomeChoices (and_choice a cs) close = ReadsChoice a ▸ ReadsMoreChoices cs close

  -- the strategies after the first one, each after a comma, and the sign
  pub ReadsMoreChoices : Choices → Sign → Reading
  ReadsMoreChoices no_choices close = Mark close
  ReadsMoreChoices (and_choice a cs) close = Mark Comma ▸ ReadsChoice a ▸ ReadsMoreChoices cs close
