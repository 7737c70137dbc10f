-- The places in a module between two tokens: which tokens may come there, and the place after each.
use Rattle.std.specs.Prelude.{◌≡◌, ℕ, Bool, true, List, if◌then◌else◌, Some, None}
use Rattle.std.specs.declared.option.Option.{Option}
use Rattle.strategy_tokens.specs.declared.token.Token.{Token}
use Rattle.strategy_tokens.specs.declared.token.Token.TheVariants.{Ident, Reserved, Bad}
use Rattle.strategy_tokens.specs.declared.token.Keyword.TheVariants.{Module, Where}
use Rattle.strategy_tokens.specs.declared.token.Sign.TheVariants.{OpenRound, CloseRound, Comma, Colon, Bar, Equals, Arrow as RightArrow, Star}
use Rattle.strategy_tokens.specs.Marks.{is_mark, is_word}
use Rattle.strategy_parse.specs.declared.modules.sections.Context.{Context}
use Rattle.strategy_parse.specs.declared.modules.sections.Context.TheVariants.{Outside, Signature as InSignature, Sorts, Constructors, Definitions}
use Rattle.strategy_parse.specs.declared.modules.sorts.SortState.TheVariants.{Begins, Named}
use Rattle.strategy_parse.specs.declared.modules.sorts.Turn.{Turn}
use Rattle.strategy_parse.specs.declared.modules.sorts.Turn.TheVariants.{Reads, Ends, Stuck}
use Rattle.strategy_parse.specs.declared.modules.place.SortUse.{SortUse}
use Rattle.strategy_parse.specs.declared.modules.place.SortUse.TheVariants.{Item, Constant, Argument, Own}
use Rattle.strategy_parse.specs.declared.modules.place.Parameters.{Parameters}
use Rattle.strategy_parse.specs.declared.modules.place.Parameters.TheVariants.{Strategies, Terms}
use Rattle.strategy_parse.specs.declared.modules.place.BodyPart.{BodyPart}
use Rattle.strategy_parse.specs.declared.modules.place.BodyPart.TheVariants.{Strategy, Left, Right}
use Rattle.strategy_parse.specs.declared.modules.place.ModulePlace.{ModulePlace}
use Rattle.strategy_parse.specs.declared.modules.place.ModulePlace.TheVariants.{Start, Titled, Between, Declared, Sort, Header, FirstName, Name, Comma as AfterComma, Headed, Body}
use Rattle.strategy_parse.specs.declared.parser.state.ParserState.{ParserState}
use Rattle.strategy_parse.specs.declared.parser.state.ParserState.TheVariants.{Strategy as ToStrategy, Pattern as ToPattern}
use Rattle.strategy_parse.specs.inside.ModuleFronts.{sort_step}
use Rattle.strategy_parse.specs.inside.Sections.{next_context}
use Rattle.strategy_parse.specs.inside.StuckPlaces.{Passed}

-- an identifier, which leads to the place
abbrev pub named : ModulePlace → Token → Option ModulePlace
named q (Ident f) = Some q
named q t = None

-- ---- between items

abbrev pub item : Context → Token → Option ModulePlace
item Outside t = None
item InSignature t = None
item Sorts t = named (Sort Item Named 0) t
item Constructors t = if (is_mark Colon t) then Some (Sort Argument Begins 0) else named Declared t
item Definitions t = named Header t

abbrev pub part : Option Context → Option ModulePlace
part None = None
part (Some q) = Some (Between q)

abbrev pub between : Context → Token → Option ModulePlace
between p (Reserved w) = part (next_context p w)
between p t = item p t

-- ---- sorts

-- what separates the sorts of a declaration
abbrev pub separated : Token → Option ModulePlace → Option ModulePlace
separated t other =
    if (is_mark Star t) then Some (Sort Argument Begins 0) else
    if (is_mark RightArrow t) then Some (Sort Own Begins 0) else other

-- after a whole sort
abbrev pub sort_ended : SortUse → Token → Option ModulePlace
sort_ended Item t = between Sorts t
sort_ended Own t = between Constructors t
sort_ended Constant t = separated t (between Constructors t)
sort_ended Argument t = separated t None

abbrev pub sort_next : SortUse → Token → Turn → Option ModulePlace
sort_next u t (Reads p d) = Some (Sort u p d)
sort_next u t Ends = sort_ended u t
sort_next u t Stuck = None

-- ---- definitions

abbrev pub after_header : Token → Option ModulePlace
after_header t =
    if (is_mark Equals t) then Some (Body Strategy) else
    if (is_mark Colon t) then Some (Body Left) else None

-- after names of parameters
abbrev pub terms_next : Parameters → Option ModulePlace
terms_next Strategies = Some (FirstName Terms)
terms_next Terms = None

abbrev pub after_names : Parameters → Token → Option ModulePlace
after_names b t =
    if (is_mark CloseRound t) then Some Headed else
    if (is_mark Bar t) then terms_next b else None

abbrev pub first_name : Parameters → Token → Option ModulePlace
first_name b (Ident f) = Some (Name b)
first_name b t = after_names b t

-- after a whole part of a definition
abbrev pub after_part : BodyPart → Token → Option ModulePlace
after_part Strategy t = between Definitions t
after_part Left t = if (is_mark RightArrow t) then Some (Body Right) else None
after_part Right t = if (is_word Where t) then Some (Body Strategy) else between Definitions t

-- ---- one token

abbrev pub next_place : ModulePlace → Token → Option ModulePlace
next_place Start t = if (is_word Module t) then Some Titled else between Outside t
next_place Titled t = named (Between Outside) t
next_place (Between p) t = between p t
next_place Declared t = if (is_mark Colon t) then Some (Sort Constant Begins 0) else None
next_place (Sort u p d) t = sort_next u t (sort_step p d t)
next_place Header t =
    if (is_mark OpenRound t) then Some (FirstName Strategies) else after_header t
next_place (FirstName b) t = first_name b t
next_place (Name b) t = if (is_mark Comma t) then Some (AfterComma b) else after_names b t
next_place (AfterComma b) t = named (Name b) t
next_place Headed t = after_header t
next_place (Body k) t = after_part k t

-- the open brackets of a sort
abbrev pub open_brackets : ModulePlace → ℕ
open_brackets (Sort u p d) = d
open_brackets q = 0

-- an item may be whole here
abbrev pub CanEnd : ModulePlace → Type 0
CanEnd (Between p) = Unit {0}
CanEnd (Sort Item p d) = sort_step p d Bad ≡ Ends
CanEnd (Sort Constant p d) = sort_step p d Bad ≡ Ends
CanEnd (Sort Argument p d) = ⊥
CanEnd (Sort Own p d) = sort_step p d Bad ≡ Ends
CanEnd (Body Strategy) = Unit {0}
CanEnd (Body Left) = ⊥
CanEnd (Body Right) = Unit {0}
CanEnd q = ⊥

-- ---- the parts of definitions

abbrev pub first_of : BodyPart → ParserState
first_of Strategy = ToStrategy
first_of Left = ToPattern
first_of Right = ToPattern

-- a part of a definition is passed where one begins
abbrev pub Crossed : ModulePlace → List Token → Bool → List Token → Type 0
Crossed (Body k) x ended y = Passed (first_of k) x ended y
Crossed q x ended y = (ended ≡ true) × (y ≡ x)
