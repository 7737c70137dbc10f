-- Which tokens are a module, which begin one, and at which one a text stops being the start of one.
use Rattle.std.specs.Prelude.{ℕ, ◌+◌, ◌<◌, ◌≤◌, List, ◌++◌, length, take}
use Rattle.strategy_syntax.specs.Modules as syntax
use Rattle.strategy_tokens.specs.declared.token.Token.{Token}
use Rattle.strategy_parse.specs.Gives.{GivesModule}

-- these tokens are a module
abbrev pub GiveModule : List Token → Type 0
GiveModule ts = (m : syntax.Module) × GivesModule ts m

-- these tokens are none
abbrev pub GiveNone : List Token → Type 0
GiveNone ts = (m : syntax.Module) → GivesModule ts m → ⊥

-- followed by some tokens, these are a module
abbrev pub BeginModule : List Token → Type 0
BeginModule ts = (rest : List Token) × GiveModule (ts ++ rest)

-- whatever follows these tokens, they are none
abbrev pub BeginNoModule : List Token → Type 0
BeginNoModule ts = (rest : List Token) → GiveNone (ts ++ rest)

-- The tokens before the item are a module. Those before the token k begin one, and with it they begin none; if there is
-- no such token, all begin one.
pub record ModuleStuckAt (ts : List Token) (item k : ℕ) : Type 0 where
  pub module_before : GiveModule (take item ts)
  pub order : item ≤ k
  pub within : k ≤ length ts
  pub begin : BeginModule (take k ts)
  pub begin_none : k < length ts → BeginNoModule (take (k + 1) ts)
