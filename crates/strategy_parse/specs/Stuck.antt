-- Which tokens begin a strategy, and at which one a text stops being the start of one.
use Rattle.std.specs.Prelude.{ℕ, ◌+◌, ◌<◌, List, ◌++◌, length, take}
use Rattle.strategy_syntax.specs.Syntax.{Strategy}
use Rattle.strategy_tokens.specs.declared.token.Token.{Token}
use Rattle.strategy_tokens.specs.Tokens.{tokens}
use Rattle.strategy_parse.specs.Gives.{GivesStrategy}

-- followed by some tokens, these give a strategy
abbrev pub Begin : List Token → Type 0
Begin ts = (rest : List Token) × (s : Strategy) × GivesStrategy (ts ++ rest) s

-- whatever follows these tokens, they give none
abbrev pub BeginNone : List Token → Type 0
BeginNone ts = (rest : List Token) (s : Strategy) → GivesStrategy (ts ++ rest) s → ⊥

-- no text that begins with these bytes gives a strategy
abbrev pub BytesBeginNone : List ℕ → Type 0
BytesBeginNone bytes = (more : List ℕ) (s : Strategy) → GivesStrategy (tokens (bytes ++ more)) s → ⊥

-- There is a token of that number. Those before it begin a strategy, and with it they begin none.
pub record StuckAt (ts : List Token) (k : ℕ) : Type 0 where
  pub there : k < length ts
  pub begin : Begin (take k ts)
  pub begin_none : BeginNone (take (k + 1) ts)
