-- What the start of a list of tokens gives, if the rest can't continue it.
use Rattle.std.specs.Prelude.{◌≡◌, ◌||◌, Bool, false, List, [], ◌∷◌}
use Rattle.strategy_syntax.specs.Syntax.{Strategy}
use Rattle.strategy_tokens.specs.declared.token.Token.{Token}
use Rattle.strategy_tokens.specs.declared.token.Sign.TheVariants.{OpenRound, OpenCurly, Semicolon, FatArrow, Less, LeftChoice, At}
use Rattle.strategy_parse.specs.declared.parser.state.Order.TheVariants.{Run}
use Rattle.strategy_parse.specs.Written.{Choice}
use Rattle.strategy_parse.specs.Grammar.{ReadsChoice}
use Rattle.strategy_parse.specs.Core.{core}
use Rattle.strategy_tokens.specs.Marks.{is_mark}

-- a sign with which a whole strategy or pattern could continue
abbrev pub goes_on : Token → Bool
goes_on t =
    is_mark OpenRound t || (is_mark OpenCurly t || (is_mark At t || (is_mark FatArrow t
    || (is_mark Semicolon t || (is_mark LeftChoice t || is_mark Less t)))))

-- no such sign comes next
abbrev pub Stops : List Token → Type 0
Stops [] = Unit {0}
Stops (t ∷ ts) = goes_on t ≡ false

-- x begins with a choice whose core form is the strategy, and y is the rest
abbrev pub FrontGives : List Token → Strategy → List Token → Type 0
FrontGives x s y = (a : Choice) × ReadsChoice a x y × (core Run a ≡ s)
