-- Laws of the texts of strategies and modules.
use Rattle.std.specs.Prelude.{◌≡◌, ℕ, List}
use Rattle.strategy_syntax.specs.Syntax.{Strategy}
use Rattle.strategy_tokens.specs.Tokens.{tokens}
use Rattle.strategy_syntax.specs.Modules as syntax
use Rattle.strategy_parse.specs.Gives.{GivesStrategy, GivesModule}

-- a text is at most one strategy
abbrev pub OneResult : Type 0
OneResult =
    (x : List ℕ) (s r : Strategy) → GivesStrategy (tokens x) s → GivesStrategy (tokens x) r → s ≡ r

-- a text is at most one module
abbrev pub OneModule : Type 0
OneModule =
    (x : List ℕ) (m r : syntax.Module) → GivesModule (tokens x) m → GivesModule (tokens x) r → m ≡ r
