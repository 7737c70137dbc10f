-- What a list of tokens is parsed to: one strategy, or one module.
use Rattle.std.specs.Prelude.{◌≡◌, List, [], ◌∷◌}
use Rattle.strategy_syntax.specs.Syntax.{Pattern, Strategy}
use Rattle.strategy_syntax.specs.Modules as syntax
use Rattle.strategy_tokens.specs.declared.token.Token.{Token}
use Rattle.strategy_parse.specs.declared.parser.state.Order.TheVariants.{Run}
use Rattle.strategy_parse.specs.Written.{Choice, Declaration, Defined, Section}
use Rattle.strategy_parse.specs.Grammar.{ReadsChoice, ReadsPattern}
use Rattle.strategy_parse.specs.GrammarModules.{ReadsDeclaration, ReadsDefined, ReadsModule}
use Rattle.strategy_parse.specs.Core.{core, core_definition, core_module, constructed}

-- the tokens are a choice whose core form is the strategy
abbrev pub GivesStrategy : List Token → Strategy → Type 0
GivesStrategy ts s = (a : Choice) × ReadsChoice a ts [] × (core Run a ≡ s)

-- the tokens are sections whose core form is the module
abbrev pub GivesModule : List Token → syntax.Module → Type 0
GivesModule ts m = (ss : List Section) × ReadsModule ss ts × (core_module ss ≡ m)

-- ---- parts of texts

-- the tokens are this pattern
abbrev pub GivesPattern : List Token → Pattern → Type 0
GivesPattern ts p = ReadsPattern p ts []

-- the tokens are a definition or a rule whose core form is the definition
abbrev pub GivesDefinition : List Token → syntax.Definition → Type 0
GivesDefinition ts d = (w : Defined) × ReadsDefined w ts [] × (core_definition w ≡ d)

-- the tokens are a declaration of this constructor
abbrev pub GivesDeclaration : List Token → syntax.Constructor → Type 0
GivesDeclaration ts c = (w : Declaration) × ReadsDeclaration w ts [] × (constructed w ≡ c ∷ [])
