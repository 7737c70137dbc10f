-- The parser as a machine over tokens: what was read last, the open forms with the innermost first,
-- and the next token. At the end of a text it reads a bad token, with which no form continues.
use Rattle.std.specs.Prelude.{◌≡◌, ℤ, suc, pos, List, [], ◌∷◌, ◌++◌, if◌then◌else◌, Some, None}
use Rattle.std.specs.declared.option.Option.{Option}
use Rattle.term_core.specs.Tree.{Symbol, same_name, application as applied, list, tuple}
use Rattle.strategy_syntax.specs.Syntax as syntax
use Rattle.strategy_syntax.specs.Syntax.{Pattern, patterns_of, Strategy, strategies_of}
use Rattle.strategy_tokens.specs.declared.token.Token.{Token}
use Rattle.strategy_tokens.specs.declared.token.Token.TheVariants.{Ident, Wildcard, Reserved, Integer, Text, Sign as ASign, Bad}
use Rattle.strategy_tokens.specs.declared.token.Keyword.{Keyword}
use Rattle.strategy_tokens.specs.declared.token.Keyword.TheVariants.{Id as KId, Fail as KFail, All as KAll, One as KOne, Some as KSome, Not as KNot, Where as KWhere, Test as KTest, If as KIf, Then as KThen, Else as KElse, End as KEnd, Rec as KRec, Prim as KPrim}
use Rattle.strategy_tokens.specs.declared.token.Sign.{Sign}
use Rattle.strategy_tokens.specs.declared.token.Sign.TheVariants.{OpenRound, CloseRound, OpenSquare, CloseSquare, OpenCurly, CloseCurly, Comma, Semicolon, Colon, Bar, FatArrow, Arrow as RightArrow, Less, Greater, LeftChoice, Plus, Question, Exclamation, At as AtSign, Backslash}
use Rattle.strategy_parse.specs.declared.parser.state.ParserState.{ParserState}
use Rattle.strategy_parse.specs.declared.parser.state.ParserState.TheVariants.{Strategy as ToStrategy, FirstStrategy, Read, Used, Opening, Rec as AfterRec, Prim as AfterPrim, PrimOpen, PrimNamed, ScopeOpen, ScopeComma, ScopeNamed, Pattern as ToPattern, FirstPattern, Named, Base, Whole}
use Rattle.strategy_parse.specs.declared.parser.state.ParserFrame.{ParserFrame}
use Rattle.strategy_parse.specs.declared.parser.state.ParserFrame.TheVariants.{InText, Operand, At, Strategy as ForStrategy, Pattern as ForPattern}
use Rattle.strategy_parse.specs.declared.parser.state.Infix.{Infix}
use Rattle.strategy_parse.specs.declared.parser.state.Infix.TheVariants.{Before, Guarded, Otherwise}
use Rattle.strategy_parse.specs.declared.parser.state.StrategyFrame.{StrategyFrame}
use Rattle.strategy_parse.specs.declared.parser.state.StrategyFrame.TheVariants.{Operator as Operated, Rec, Child, Scope, Application, If, Then, Else, Where, List as Strategies, Tail as SquareTail}
use Rattle.strategy_parse.specs.declared.parser.state.PatternFrame.{PatternFrame}
use Rattle.strategy_parse.specs.declared.parser.state.PatternFrame.TheVariants.{Match, Build, Applied, Matched, Left as ClosureLeft, Right as ClosureRight, List as Patterns, Tail as PatternTail}
use Rattle.strategy_parse.specs.declared.parser.state.Order.{Order}
use Rattle.strategy_parse.specs.declared.parser.state.Order.TheVariants.{Run, Written}
use Rattle.strategy_parse.specs.declared.parser.state.Operator.{Operator}
use Rattle.strategy_parse.specs.declared.parser.state.Operator.TheVariants.{All, One, Some as SomeChild, Not, Where as WhereOf, Test}
use Rattle.strategy_parse.specs.declared.parser.state.StrategyGroup.{StrategyGroup}
use Rattle.strategy_parse.specs.declared.parser.state.StrategyGroup.TheVariants.{Round, Square, Arguments}
use Rattle.strategy_parse.specs.declared.parser.state.PatternGroup.{PatternGroup}
use Rattle.strategy_parse.specs.declared.parser.state.PatternGroup.TheVariants.{Application as PApplication, List as PList, Tuple as PTuple, Annotations, Terms, Prim}
use Rattle.strategy_parse.specs.declared.parser.state.Effect.{Effect}
use Rattle.strategy_parse.specs.declared.parser.state.Effect.TheVariants.{Goes, Ends}
use Rattle.strategy_tokens.specs.Marks.{is_mark, is_word}
use Rattle.strategy_syntax.specs.Variables.{variables}
use Rattle.strategy_syntax.specs.Lists.{first_ones}
use Rattle.strategy_parse.specs.Core.{operated, in_brackets, ordered, rewrite, rewrite_where}

-- The effect of a token: it is read, or a whole strategy ended before it, or nothing continues with
-- it.
pub data Next : Type 0 where
  goes : ParserState → List ParserFrame → Next
  ends : Strategy → Next
  stuck : Next

abbrev pub leads : Effect → List ParserFrame → Next
leads (Goes q) S = goes q S
leads (Ends s) S = ends s

-- ---- the order of parts

-- the order that the outermost open form asks for, or else this one
abbrev pub order_below : Order → List ParserFrame → Order
order_below o [] = o
order_below o (InText ∷ S) = order_below Written S
order_below o (F ∷ S) = order_below Run S

-- the order in which parts of forms are put together
abbrev pub order_of : List ParserFrame → Order
order_of S = order_below Run S

-- ---- beginnings

abbrev pub open_patterns : PatternGroup → List ParserFrame → Next
open_patterns g S = goes (FirstPattern g) S

abbrev pub open_strategies : StrategyGroup → List ParserFrame → Next
open_strategies g S = goes (FirstStrategy g) S

abbrev pub open_pattern : List ParserFrame → Sign → Next
open_pattern S OpenSquare = open_patterns PList S
open_pattern S OpenRound = open_patterns PTuple S
open_pattern S s = stuck

abbrev pub begin_pattern : List ParserFrame → Token → Next
begin_pattern S Wildcard = goes (Base syntax.wildcard) S
begin_pattern S (Ident f) = goes (Named f) S
begin_pattern S (Integer z) = goes (Base (syntax.number z)) S
begin_pattern S (Text f) = goes (Base (syntax.compound (applied f) syntax.no_patterns)) S
begin_pattern S (ASign s) = open_pattern S s
begin_pattern S (Reserved k) = stuck
begin_pattern S Bad = stuck

abbrev pub begin_sign : List ParserFrame → Sign → Next
begin_sign S Question = goes ToPattern (ForPattern Match ∷ S)
begin_sign S Exclamation = goes ToPattern (ForPattern Build ∷ S)
begin_sign S Less = goes ToStrategy (ForStrategy Application ∷ S)
begin_sign S OpenCurly = goes ScopeOpen S
begin_sign S Backslash = goes ToPattern (ForPattern ClosureLeft ∷ S)
begin_sign S OpenRound = open_strategies Round S
begin_sign S OpenSquare = open_strategies Square S
begin_sign S s = stuck

abbrev pub operate : Operator → List ParserFrame → Next
operate o S = goes (Opening (Operated o)) S

abbrev pub begin_word : List ParserFrame → Keyword → Next
begin_word S KId = goes (Read syntax.id) S
begin_word S KFail = goes (Read syntax.fail) S
begin_word S KAll = operate All S
begin_word S KOne = operate One S
begin_word S KSome = operate SomeChild S
begin_word S KNot = operate Not S
begin_word S KWhere = operate WhereOf S
begin_word S KTest = operate Test S
begin_word S KIf = goes ToStrategy (ForStrategy If ∷ S)
begin_word S KRec = goes AfterRec S
begin_word S KPrim = goes AfterPrim S
begin_word S k = stuck

-- children are counted from 1
abbrev pub begin_child : List ParserFrame → ℤ → Next
begin_child S (pos (suc n)) = goes (Opening (Child (suc n))) S
begin_child S z = stuck

abbrev pub begin : List ParserFrame → Token → Next
begin S (ASign s) = begin_sign S s
begin S (Reserved k) = begin_word S k
begin S (Ident f) = goes (Used f) S
begin S (Integer z) = begin_child S z
begin S Wildcard = stuck
begin S (Text f) = stuck
begin S Bad = stuck

-- ---- after a strategy

-- the sign that closes a list of strategies
abbrev pub closing : StrategyGroup → Sign
closing Round = CloseRound
closing Square = CloseSquare
closing (Arguments f) = CloseRound

-- what a list of strategies makes
abbrev pub grouped : StrategyGroup → List Strategy → Strategy
grouped Round done = in_brackets (strategies_of done)
grouped Square done = syntax.congruence list (strategies_of done)
grouped (Arguments f) done = syntax.uses f (strategies_of done) syntax.no_patterns

abbrev pub close_strategies : StrategyGroup → List Strategy → List ParserFrame → Token → Next
close_strategies g done S t =
    if (is_mark (closing g) t) then goes (Read (grouped g done)) S else stuck

-- a `|` after the strategies of a list
abbrev pub after_bar : StrategyGroup → List Strategy → List ParserFrame → Next
after_bar Round done S = stuck
after_bar Square done S = goes ToStrategy (ForStrategy (SquareTail done) ∷ S)
after_bar (Arguments f) done S = open_patterns (Terms f done) S

-- after a strategy of a list, which was added to the list
abbrev pub after_element : StrategyGroup → List Strategy → List ParserFrame → Token → Next
after_element g done S t =
    if (is_mark Comma t) then goes ToStrategy (ForStrategy (Strategies g done) ∷ S) else
    if (is_mark Bar t) then after_bar g done S else close_strategies g done S t

-- a whole strategy in an open form
abbrev pub in_frame : Strategy → StrategyFrame → List ParserFrame → Token → Next
in_frame s (Operated o) S t =
    if (is_mark CloseRound t) then goes (Read (operated o s)) S else stuck
in_frame s (Rec x) S t =
    if (is_mark CloseRound t) then goes (Read (syntax.rec x s)) S else stuck
in_frame s (Child i) S t =
    if (is_mark CloseRound t) then goes (Read (syntax.child i s)) S else stuck
in_frame s (Scope xs) S t =
    if (is_mark CloseCurly t) then goes (Read (syntax.scope xs s)) S else stuck
in_frame s Application S t =
    if (is_mark Greater t) then goes ToPattern (ForPattern (Applied s) ∷ S) else stuck
in_frame s If S t = if (is_word KThen t) then goes ToStrategy (ForStrategy (Then s) ∷ S) else stuck
in_frame s (Then a) S t =
    if (is_word KElse t) then goes ToStrategy (ForStrategy (Else a s) ∷ S) else
    if (is_word KEnd t) then goes (Read (syntax.guard (syntax.test a) s syntax.id)) S else stuck
in_frame s (Else a b) S t =
    if (is_word KEnd t) then goes (Read (syntax.guard (syntax.test a) b s)) S else stuck
in_frame s (Where p q) S t =
    if (is_mark Backslash t)
    then goes (Read (syntax.scope (first_ones same_name [] (variables p)) (rewrite_where (order_of S) p q s))) S
    else stuck
in_frame s (Strategies g done) S t = after_element g (done ++ s ∷ []) S t
in_frame s (SquareTail done) S t =
    if (is_mark CloseSquare t)
    then goes (Read (syntax.tail_congruence (strategies_of done) s)) S else stuck

-- after the last part of a choice
abbrev pub after_choice : Strategy → List ParserFrame → Token → Next
after_choice s (Operand Otherwise b ∷ (Operand Guarded a ∷ S)) t =
    after_choice (syntax.guard a b s) S t
after_choice s [] t = ends s
after_choice s (InText ∷ S) t = ends s
after_choice s (ForStrategy F ∷ S) t = in_frame s F S t
after_choice s (F ∷ S) t = stuck

-- after a sequence that isn't the second branch of a guarded choice
abbrev pub after_seq : Strategy → List ParserFrame → Token → Next
after_seq s S t =
    if (is_mark LeftChoice t)
    then goes ToStrategy (Operand Otherwise syntax.id ∷ (Operand Guarded s ∷ S)) else
    if (is_mark Less t) then goes ToStrategy (Operand Guarded s ∷ S) else after_choice s S t

-- after an arrow form without a `;`; after `s < r` a `+` has to come
abbrev pub after_arrow : Strategy → List ParserFrame → Token → Next
after_arrow s (Operand Before r ∷ S) t = after_arrow (syntax.seq r s) S t
after_arrow s (Operand Guarded a ∷ S) t =
    if (is_mark Plus t)
    then goes ToStrategy (Operand Otherwise s ∷ (Operand Guarded a ∷ S)) else stuck
after_arrow s S t = after_seq s S t

-- after a strategy, which may continue
abbrev pub after : Strategy → List ParserFrame → Token → Next
after s S t =
    if (is_mark FatArrow t) then goes ToPattern (ForPattern (Matched s) ∷ S) else
    if (is_mark Semicolon t) then goes ToStrategy (Operand Before s ∷ S) else after_arrow s S t

-- ---- after a pattern

abbrev pub closing_sign : PatternGroup → Sign
closing_sign (PApplication f) = CloseRound
closing_sign PList = CloseSquare
closing_sign PTuple = CloseRound
closing_sign (Annotations p) = CloseCurly
closing_sign (Terms f ss) = CloseRound
closing_sign (Prim f) = CloseRound

-- what a list of patterns makes
abbrev pub close_patterns : PatternGroup → List Pattern → ParserState
close_patterns (PApplication f) ps = Base (syntax.compound (applied f) (patterns_of ps))
close_patterns PList ps = Base (syntax.compound list (patterns_of ps))
close_patterns PTuple ps = Base (syntax.compound tuple (patterns_of ps))
close_patterns (Annotations p) ps = Whole (syntax.annotated p (patterns_of ps))
close_patterns (Terms f ss) ps = Read (syntax.uses f (strategies_of ss) (patterns_of ps))
close_patterns (Prim f) ps = Read (syntax.prim f (patterns_of ps))

-- a `|` after the patterns of a list
abbrev pub pattern_bar : PatternGroup → List Pattern → List ParserFrame → Next
pattern_bar PList ps S = goes ToPattern (ForPattern (PatternTail ps) ∷ S)
pattern_bar g ps S = stuck

-- after a pattern of a list, which was added to the list
abbrev pub after_one : PatternGroup → List Pattern → List ParserFrame → Token → Next
after_one g ps S t =
    if (is_mark Comma t) then goes ToPattern (ForPattern (Patterns g ps) ∷ S) else
    if (is_mark (closing_sign g) t) then goes (close_patterns g ps) S else
    if (is_mark Bar t) then pattern_bar g ps S else stuck

-- a whole pattern in an open form
abbrev pub pattern_in_frame : Pattern → PatternFrame → List ParserFrame → Token → Next
pattern_in_frame p Match S t = after (syntax.matches p) S t
pattern_in_frame p Build S t = after (syntax.builds p) S t
pattern_in_frame p (Applied s) S t = after (ordered (order_of S) (syntax.builds p) s) S t
pattern_in_frame p (Matched s) S t = after (syntax.seq s (syntax.matches p)) S t
pattern_in_frame p ClosureLeft S t =
    if (is_mark RightArrow t) then goes ToPattern (ForPattern (ClosureRight p) ∷ S) else stuck
pattern_in_frame p (ClosureRight l) S t =
    if (is_mark Backslash t)
    then goes (Read (syntax.scope (first_ones same_name [] (variables l)) (rewrite l p))) S else
    if (is_word KWhere t) then goes ToStrategy (ForStrategy (Where l p) ∷ S) else stuck
pattern_in_frame p (Patterns g ps) S t = after_one g (ps ++ p ∷ []) S t
pattern_in_frame p (PatternTail ps) S t =
    if (is_mark CloseSquare t) then goes (Base (syntax.with_tail (patterns_of ps) p)) S else stuck

-- a pattern that stands alone ends as the strategy that matches it
abbrev pub after_pattern : Pattern → List ParserFrame → Token → Next
after_pattern p (At x ∷ S) t = after_pattern (syntax.at x p) S t
after_pattern p [] t = ends (syntax.matches p)
after_pattern p (ForPattern F ∷ S) t = pattern_in_frame p F S t
after_pattern p (F ∷ S) t = stuck

abbrev pub after_base : Pattern → List ParserFrame → Token → Next
after_base p S t =
    if (is_mark OpenCurly t) then open_patterns (Annotations p) S else after_pattern p S t

-- ---- one token

-- a list of strategies may be empty; before a `|` only if it holds arguments
abbrev pub empty_bar : StrategyGroup → List ParserFrame → Next
empty_bar (Arguments f) S = open_patterns (Terms f []) S
empty_bar Round S = stuck
empty_bar Square S = stuck

abbrev pub first_strategy : StrategyGroup → List ParserFrame → Token → Next
first_strategy g S t =
    if (is_mark (closing g) t) then goes (Read (grouped g [])) S else
    if (is_mark Bar t) then empty_bar g S else begin (ForStrategy (Strategies g []) ∷ S) t

abbrev pub first_pattern : PatternGroup → List ParserFrame → Token → Next
first_pattern g S t =
    if (is_mark (closing_sign g) t) then goes (close_patterns g []) S
    else begin_pattern (ForPattern (Patterns g []) ∷ S) t

abbrev pub rec_name : List ParserFrame → Token → Next
rec_name S (Ident f) = goes (Opening (Rec f)) S
rec_name S t = stuck

abbrev pub prim_name : List ParserFrame → Token → Next
prim_name S (Text f) = goes (PrimNamed f) S
prim_name S t = stuck

abbrev pub scope_name : List Symbol → List ParserFrame → Token → Next
scope_name xs S (Ident f) = goes (ScopeNamed (xs ++ f ∷ [])) S
scope_name xs S t = stuck

abbrev pub begin_scope : List Symbol → List ParserFrame → Next
begin_scope xs S = goes ToStrategy (ForStrategy (Scope xs) ∷ S)

abbrev pub step : ParserState → List ParserFrame → Token → Next
step ToStrategy S t = begin S t
step (FirstStrategy g) S t = first_strategy g S t
step (Read s) S t = after s S t
step (Used f) S t =
    if (is_mark OpenRound t) then open_strategies (Arguments f) S
    else after (syntax.uses f syntax.no_strategies syntax.no_patterns) S t
step (Opening F) S t = if (is_mark OpenRound t) then goes ToStrategy (ForStrategy F ∷ S) else stuck
step AfterRec S t = rec_name S t
step AfterPrim S t = if (is_mark OpenRound t) then goes PrimOpen S else stuck
step PrimOpen S t = prim_name S t
step (PrimNamed f) S t =
    if (is_mark Comma t) then goes ToPattern (ForPattern (Patterns (Prim f) []) ∷ S) else
    if (is_mark CloseRound t) then goes (Read (syntax.prim f syntax.no_patterns)) S else stuck
step ScopeOpen S t = if (is_mark Colon t) then begin_scope [] S else scope_name [] S t
step (ScopeComma xs) S t = scope_name xs S t
step (ScopeNamed xs) S t =
    if (is_mark Colon t) then begin_scope xs S else
    if (is_mark Comma t) then goes (ScopeComma xs) S else stuck
step ToPattern S t = begin_pattern S t
step (FirstPattern g) S t = first_pattern g S t
step (Named f) S t =
    if (is_mark OpenRound t) then open_patterns (PApplication f) S else
    if (is_mark AtSign t) then goes ToPattern (At f ∷ S) else after_base (syntax.variable f) S t
step (Base p) S t = after_base p S t
step (Whole p) S t = after_pattern p S t

-- ---- the start of a text

abbrev pub front_of : (ParserState → List ParserFrame → Option (Strategy × List Token)) → List Token → Next
    → Option (Strategy × List Token)
front_of k x (goes q S) = k q S
front_of k x (ends s) = Some (s, x)
front_of k x stuck = None

-- the strategy at the start of the tokens, and the rest
abbrev pub front : (Token → Next) → List Token → Option (Strategy × List Token)
front f [] = front_of (λ q S. None) [] (f Bad)
front f (t ∷ ts) = front_of (λ q S. front (step q S) ts) (t ∷ ts) (f t)

-- ---- the top of the stack

abbrev pub no_operand : Infix → List ParserFrame → Type 0
no_operand i S = (s : Strategy) (R : List ParserFrame) → S ≡ Operand i s ∷ R → ⊥

abbrev pub HasOperand : Infix → List ParserFrame → Type 0
HasOperand i S = (s : Strategy) × (R : List ParserFrame) × (S ≡ Operand i s ∷ R)

abbrev pub no_at : List ParserFrame → Type 0
no_at S = (x : Symbol) (R : List ParserFrame) → S ≡ At x ∷ R → ⊥
