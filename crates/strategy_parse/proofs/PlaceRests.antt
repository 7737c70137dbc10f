-- What the tokens from a place of a module on have to be, for the whole to be a module.
use Rattle.std.proofs.Common.{◌≡◌, ℕ, List, [], ◌∷◌, Some}
use Rattle.std.specs.Prelude.{◌⊎◌}
use Rattle.term_core.specs.Tree.{Symbol}
use Rattle.strategy_syntax.specs.Syntax.{Strategy}
use Rattle.strategy_syntax.specs.Modules.{Module}
use Rattle.strategy_tokens.specs.declared.token.Token.{Token}
use Rattle.strategy_tokens.specs.declared.token.Token.TheVariants.{Ident, Reserved, Sign as ASign}
use Rattle.strategy_tokens.specs.declared.token.Keyword.TheVariants.{Where}
use Rattle.strategy_tokens.specs.declared.token.Sign.{Sign}
use Rattle.strategy_tokens.specs.declared.token.Sign.TheVariants.{OpenRound, CloseRound, Colon, Bar, Equals, Arrow as RightArrow}
use Rattle.strategy_parse.specs.declared.modules.sections.Context.{Context}
use Rattle.strategy_parse.specs.declared.modules.sections.Context.TheVariants.{Outside, Sorts, Constructors, Definitions}
use Rattle.strategy_parse.specs.declared.modules.sorts.SortState.{SortState}
use Rattle.strategy_parse.specs.declared.modules.sorts.SortState.TheVariants.{Begins}
use Rattle.strategy_parse.specs.declared.modules.place.SortUse.{SortUse}
use Rattle.strategy_parse.specs.declared.modules.place.SortUse.TheVariants.{Item, Constant, Argument, Own}
use Rattle.strategy_parse.specs.declared.modules.place.Parameters.{Parameters}
use Rattle.strategy_parse.specs.declared.modules.place.Parameters.TheVariants.{Strategies}
use Rattle.strategy_parse.specs.declared.modules.place.BodyPart.{BodyPart}
use Rattle.strategy_parse.specs.declared.modules.place.BodyPart.TheVariants.{Strategy as Body, Left, Right}
use Rattle.strategy_parse.specs.declared.modules.place.ModulePlace.{ModulePlace}
use Rattle.strategy_parse.specs.declared.modules.place.ModulePlace.TheVariants as place
use Rattle.strategy_parse.specs.declared.parser.state.ParserState.{ParserState}
use Rattle.strategy_parse.specs.declared.parser.state.ParserState.TheVariants.{Strategy as ToStrategy, Pattern as ToPattern}
use Rattle.aterm_text.specs.Grammar.{◌▸◌}
use Rattle.strategy_parse.specs.Grammar.{Mark, ReadsNames, ReadsMoreNames}
use Rattle.strategy_parse.specs.GrammarModules.{ReadsParameters}
use Rattle.strategy_parse.specs.StuckModules.{GiveModule}
use Rattle.strategy_parse.specs.inside.ModuleFronts.{sorts_from}
use Rattle.strategy_parse.specs.inside.ModulePlaces.{first_of}
use Rattle.strategy_parse.specs.inside.Sections.{Left as LeftIn}
use Rattle.strategy_parse.specs.inside.StuckPlaces.{read_from}

-- the rest of a module, in this context
abbrev pub Parts : Context → List Token → Type 0
Parts p x = (m : Module) × LeftIn p x m

abbrev pub AfterMark : Sign → (List Token → Type 0) → List Token → Type 0
AfterMark m K x = (z : List Token) × (x ≡ ASign m ∷ z) × K z

abbrev pub AfterIdent : (List Token → Type 0) → List Token → Type 0
AfterIdent K x = (f : Symbol) × (z : List Token) × (x ≡ Ident f ∷ z) × K z

-- ---- definitions

-- a form that begins in this state, and what comes after it
abbrev pub Form : ParserState → (List Token → Type 0) → List Token → Type 0
Form q K x = (s : Strategy) × (y : List Token) × (read_from q x ≡ Some (s, y)) × K y

abbrev pub InBody : List Token → Type 0
InBody x = Form ToStrategy (Parts Definitions) x

abbrev pub AfterWhere : List Token → Type 0
AfterWhere y = (z : List Token) × (y ≡ Reserved Where ∷ z) × InBody z

abbrev pub AfterRight : List Token → Type 0
AfterRight y = Parts Definitions y ⊎ AfterWhere y

abbrev pub InRight : List Token → Type 0
InRight x = Form ToPattern AfterRight x

abbrev pub AfterLeft : List Token → Type 0
AfterLeft y = AfterMark RightArrow InRight y

abbrev pub InLeft : List Token → Type 0
InLeft x = Form ToPattern AfterLeft x

abbrev pub AfterHeader : List Token → Type 0
AfterHeader x = AfterMark Equals InBody x ⊎ AfterMark Colon InLeft x

abbrev pub AfterPart : BodyPart → List Token → Type 0
AfterPart Body y = Parts Definitions y
AfterPart Left y = AfterLeft y
AfterPart Right y = AfterRight y

-- the names of term parameters
abbrev pub InTerms : List Token → Type 0
InTerms y = (fs : List Symbol) × (z : List Token) × ReadsNames fs CloseRound y z × AfterHeader z

-- after the sign at the end of names
abbrev pub AfterNames : Parameters → Sign → List Token → Type 0
AfterNames b m y = ((m ≡ CloseRound) × AfterHeader y) ⊎ ((b ≡ Strategies) × (m ≡ Bar) × InTerms y)

abbrev pub InNames : Parameters → List Token → Type 0
InNames b x = (fs : List Symbol) × (m : Sign) × (y : List Token) × ReadsNames fs m x y × AfterNames b m y

abbrev pub InMoreNames : Parameters → List Token → Type 0
InMoreNames b x = (fs : List Symbol) × (m : Sign) × (y : List Token) × ReadsMoreNames fs m x y × AfterNames b m y

abbrev pub Brackets : List Symbol → List Symbol → List Token → List Token → Type 0
Brackets ss ts x y = (Mark OpenRound ▸ ReadsParameters ss ts) x y ⊎ ((y ≡ x) × (ss ≡ []) × (ts ≡ []))

abbrev pub InHeader : List Token → Type 0
InHeader x = (ss : List Symbol) × (ts : List Symbol) × (y : List Token) × Brackets ss ts x y × AfterHeader y

-- ---- sorts, counted from the first one of the item or of what is left of it

abbrev pub AfterOwn : ℕ → List Token → Type 0
AfterOwn c y = (c ≡ 1) × Parts Constructors y

abbrev pub InOwn : List Token → Type 0
InOwn x = (c : ℕ) × (y : List Token) × (sorts_from Begins 0 1 x ≡ Some (c, y)) × AfterOwn c y

abbrev pub AfterSorts : SortUse → ℕ → List Token → Type 0
AfterSorts Item c y = (c ≡ 1) × Parts Sorts y
AfterSorts Own c y = AfterOwn c y
AfterSorts Argument c y = AfterMark RightArrow InOwn y
AfterSorts Constant c y = AfterMark RightArrow InOwn y ⊎ AfterOwn c y

abbrev pub InSorts : SortUse → SortState → ℕ → List Token → Type 0
InSorts u p d x = (c : ℕ) × (y : List Token) × (sorts_from p d 1 x ≡ Some (c, y)) × AfterSorts u c y

-- ---- at each place

-- the part of a definition before the place is whole
abbrev pub Rest : ModulePlace → List Token → Type 0
Rest place.Start x = GiveModule x
Rest place.Titled x = AfterIdent (Parts Outside) x
Rest (place.Between p) x = Parts p x
Rest place.Declared x = AfterMark Colon (InSorts Constant Begins 0) x
Rest (place.Sort u p d) x = InSorts u p d x
Rest place.Header x = InHeader x
Rest (place.FirstName b) x = InNames b x
Rest (place.Name b) x = InMoreNames b x
Rest (place.Comma b) x = AfterIdent (InMoreNames b) x
Rest place.Headed x = AfterHeader x
Rest (place.Body k) x = AfterPart k x

-- a part of a definition begins at the place
abbrev pub Begun : ModulePlace → List Token → Type 0
Begun (place.Body k) x = Form (first_of k) (AfterPart k) x
Begun q x = Rest q x
