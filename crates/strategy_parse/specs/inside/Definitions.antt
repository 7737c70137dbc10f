-- The definition at the start of a list of tokens.
use Rattle.std.specs.Prelude.{◌≡◌, false, List}
use Rattle.strategy_syntax.specs.Modules.{Definition}
use Rattle.strategy_tokens.specs.declared.token.Token.{Token}
use Rattle.strategy_tokens.specs.declared.token.Keyword.TheVariants.{Where}
use Rattle.strategy_tokens.specs.declared.token.Sign.TheVariants.{Arrow as RightArrow}
use Rattle.strategy_parse.specs.Written.{Header, Defined, definition, rule, rule_where}
use Rattle.aterm_text.specs.Grammar.{◌▸◌}
use Rattle.strategy_parse.specs.Grammar.{Reading, Word, Mark, ReadsPattern, ReadsChoice}
use Rattle.strategy_parse.specs.GrammarModules.{ReadsDefined}
use Rattle.strategy_parse.specs.Core.{core_definition}
use Rattle.strategy_parse.specs.inside.Fronts.{Stops}
use Rattle.strategy_parse.specs.inside.NextToken.{next_token}
use Rattle.strategy_tokens.specs.Marks.{is_word}

-- the next token doesn't continue a definition
pub record DefinitionEnds (y : List Token) : Type 0 where
  pub stops : Stops y
  pub no_condition : is_word Where (next_token y) ≡ false

-- x begins with a definition whose core form is d, and y is the rest
pub record DefinitionGives (x : List Token) (d : Definition) (y : List Token) : Type 0 where
  pub written : Defined
  pub reads : ReadsDefined written x y
  pub is : core_definition written ≡ d

-- ---- rules, after the colon

abbrev pub header_of : Defined → Header
header_of (definition h a) = h
header_of (rule h p q) = h
header_of (rule_where h p q a) = h

abbrev pub ReadsRule : Defined → Reading
ReadsRule (definition h a) u v = ⊥
ReadsRule (rule h p q) u v = (ReadsPattern p ▸ Mark RightArrow ▸ ReadsPattern q) u v
ReadsRule (rule_where h p q a) u v =
    (ReadsPattern p ▸ Mark RightArrow ▸ ReadsPattern q ▸ Word Where ▸ ReadsChoice a) u v

-- x begins with the rest of a rule with this header
pub record RuleGives (h : Header) (x : List Token) (d : Definition) (y : List Token) : Type 0 where
  pub written : Defined
  pub header : header_of written ≡ h
  pub reads : ReadsRule written x y
  pub is : core_definition written ≡ d
