-- The syntax of strategy and module texts, production by production of the grammar, before it is
-- translated into core forms. Patterns need no translation, and sorts only that of two names.
use Rattle.std.specs.Prelude.{ℕ, List}
use Rattle.std.specs.declared.option.Option.{Option}
use Rattle.term_core.specs.Tree.{Symbol}
use Rattle.term_sorts.specs.Sorts.{Sort, Sorts}
use Rattle.strategy_syntax.specs.Syntax.{Pattern, Patterns}
use Rattle.strategy_parse.specs.declared.parser.state.Operator.{Operator}

mutual
  -- `seq`, `seq <+ choice`, or `seq < seq + choice`
  pub data Choice : Type 0 where
    sequence : Seq → Choice
    left_choice : Seq → Choice → Choice
    guarded_choice : Seq → Seq → Choice → Choice

  -- `arrow`, or `arrow ; seq`
  pub data Seq : Type 0 where
    last : Arrow → Seq
    before : Arrow → Seq → Seq

  -- `prefix`, and the patterns after it, each after a `=>`
  pub data Arrow : Type 0 where
    arrow : Prefix → Patterns → Arrow

  pub data Prefix : Type 0 where
    question : Pattern → Prefix  -- `? pattern`
    exclamation : Pattern → Prefix  -- `! pattern`
    application : Choice → Pattern → Prefix  -- `< choice > pattern`
    identity : Prefix
    failure : Prefix
    operator : Operator → Choice → Prefix  -- a word and `( choice )`
    if_then : Choice → Choice → Prefix  -- `if choice then choice end`
    if_then_else : Choice → Choice → Choice → Prefix  -- `if choice then choice else choice end`
    recursion : Symbol → Choice → Prefix  -- `rec ident ( choice )`
    primitive : Symbol → Patterns → Prefix  -- `prim ( string, pattern, .. )`
    local : List Symbol → Choice → Prefix  -- `{ ident, .. : choice }`
    closure : Pattern → Pattern → Prefix  -- `\ pattern -> pattern \`
    closure_where : Pattern → Pattern → Choice → Prefix  -- the same with `where choice`
    round : Choices → Prefix  -- `( choice, .. )`, of any number
    square : Choices → Prefix  -- `[ choice, .. ]`
    square_with_tail : Choices → Choice → Prefix  -- `[ choice, .. | choice ]`
    name : Symbol → Prefix  -- `ident`
    call : Symbol → Choices → Prefix  -- `ident ( choice, .. )`
    call_with_terms : Symbol → Choices → Patterns → Prefix  -- `ident ( choice, .. | pattern, .. )`
    child : ℕ → Choice → Prefix  -- `integer ( choice )`

  pub data Choices : Type 0 where
    no_choices : Choices
    and_choice : Choice → Choices → Choices

-- ---- modules

-- `ident : sort`, or `[ ident ] : sort * .. -> sort`
pub data Declaration : Type 0 where
  constant : Symbol → Sort → Declaration
  function : Option Symbol → Sorts → Sort → Declaration

-- `ident`, `ident ( ident, .. )` or `ident ( ident, .. | ident, .. )`
pub record Header : Type 0 where
  pub name : Symbol
  pub strategies : List Symbol
  pub terms : List Symbol

-- `header = choice`, or `header : pattern -> pattern`, and with `where choice`
pub data Defined : Type 0 where
  definition : Header → Choice → Defined
  rule : Header → Pattern → Pattern → Defined
  rule_where : Header → Pattern → Pattern → Choice → Defined

-- what follows `sorts` and `constructors`
pub data SignaturePart : Type 0 where
  sorts : List Sort → SignaturePart
  constructors : List Declaration → SignaturePart

-- `signature` and its parts; or `rules` or `strategies`, and definitions
pub data Section : Type 0 where
  signature : List SignaturePart → Section
  definitions : List Defined → Section
