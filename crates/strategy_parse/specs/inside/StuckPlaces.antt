-- How far the machine takes some tokens, on its own: before the first one that it doesn't take, the form goes on with
-- other tokens, and it either ends or is stuck there.
use Rattle.std.specs.Prelude.{◌≡◌, Bool, true, false, List, [], ◌∷◌, ◌++◌, Some, None}
use Rattle.std.specs.declared.option.Option.{Option}
use Rattle.strategy_syntax.specs.Syntax.{Strategy}
use Rattle.strategy_tokens.specs.declared.token.Token.{Token}
use Rattle.strategy_parse.specs.declared.parser.state.ParserState.{ParserState}
use Rattle.strategy_parse.specs.declared.parser.state.ParserState.TheVariants.{Strategy as ToStrategy, Pattern as ToPattern}
use Rattle.strategy_parse.specs.inside.Parser.{step, front}
use Rattle.strategy_parse.specs.inside.Fronts.{Stops}

-- where a strategy or a pattern begins
abbrev pub IsFirst : ParserState → Type 0
IsFirst ToStrategy = Unit {0}
IsFirst ToPattern = Unit {0}
IsFirst q = ⊥

-- the form at the start of the tokens, and the rest
abbrev pub read_from : ParserState → List Token → Option (Strategy × List Token)
read_from q x = front (step q []) x

-- with some tokens after these, there is a form
pub record GoesOn (q : ParserState) (taken : List Token) : Type 0 where
  pub more : List Token
  pub form : Strategy
  pub reads : (y : List Token) → Stops y → read_from q (taken ++ (more ++ y)) ≡ Some (form, y)

-- these tokens are a form, at the end of a text and before this token
pub record EndsBefore (q : ParserState) (taken : List Token) (t : Token) : Type 0 where
  pub form : Strategy
  pub last : read_from q (taken ++ []) ≡ Some (form, [])
  pub before : (x : List Token) → read_from q (taken ++ t ∷ x) ≡ Some (form, t ∷ x)

-- what the first token after them does, if there is one: the form ends before it or not
abbrev pub Halts : ParserState → List Token → Bool → List Token → Type 0
Halts q taken true [] = ⊥
Halts q taken false [] = Unit {0}
Halts q taken true (t ∷ ts) = EndsBefore q taken t
Halts q taken false (t ∷ ts) = (x : List Token) → read_from q (taken ++ t ∷ x) ≡ None

pub record Passed (q : ParserState) (x : List Token) (ended : Bool) (y : List Token) : Type 0 where
  pub taken : List Token
  pub splits : x ≡ taken ++ y
  pub goes_on : GoesOn q taken
  pub halts : Halts q taken ended y
