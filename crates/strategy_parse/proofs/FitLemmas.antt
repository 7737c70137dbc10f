-- Which open forms may be below a strategy or a pattern; each token keeps to that.
use Rattle.std.proofs.Common.{Bool, true, false, zero, suc, ℤ, pos, negsuc, List, [], ◌∷◌, ◌++◌}
use Rattle.std.specs.Prelude.{if◌then◌else◌}
use Rattle.term_core.specs.Tree.{Symbol}
use Rattle.strategy_syntax.specs.Syntax as syntax
use Rattle.strategy_syntax.specs.Syntax.{Pattern, Strategy}
use Rattle.strategy_tokens.specs.declared.token.Token.{Token}
use Rattle.strategy_tokens.specs.declared.token.Token.TheVariants.{Ident, Wildcard, Reserved, Integer, Text, Sign as ASign, Bad}
use Rattle.strategy_tokens.specs.declared.token.Keyword.{Keyword}
use Rattle.strategy_tokens.specs.declared.token.Keyword.TheVariants.{Id as KId, Fail as KFail, All as KAll, One as KOne, Some as KSome, Not as KNot, Where as KWhere, Test as KTest, If as KIf, Then as KThen, Else as KElse, End as KEnd, Rec as KRec, Prim as KPrim}
use Rattle.strategy_tokens.specs.declared.token.Sign.{Sign}
use Rattle.strategy_tokens.specs.declared.token.Sign.TheVariants.{OpenRound, CloseRound, OpenSquare, CloseSquare, OpenCurly, CloseCurly, Comma, Semicolon, Colon, Bar, FatArrow, Arrow as RightArrow, Less, Greater, LeftChoice, Plus, Question, Exclamation, At as AtSign, Backslash}
use Rattle.strategy_parse.specs.declared.parser.state.ParserState.{ParserState}
use Rattle.strategy_parse.specs.declared.parser.state.ParserState.TheVariants.{Strategy as ToStrategy, FirstStrategy, Read, Used, Opening, Rec as AfterRec, Prim as AfterPrim, PrimOpen, PrimNamed, ScopeOpen, ScopeComma, ScopeNamed, Pattern as ToPattern, FirstPattern, Named, Base, Whole}
use Rattle.strategy_parse.specs.declared.parser.state.ParserFrame.{ParserFrame}
use Rattle.strategy_parse.specs.declared.parser.state.ParserFrame.TheVariants.{InText, Operand, At, Strategy as ForStrategy, Pattern as ForPattern}
use Rattle.strategy_parse.specs.declared.parser.state.Infix.TheVariants.{Before, Guarded, Otherwise}
use Rattle.strategy_parse.specs.declared.parser.state.StrategyFrame.{StrategyFrame}
use Rattle.strategy_parse.specs.declared.parser.state.StrategyFrame.TheVariants.{Operator as Operated, Rec, Child, Scope, Application, If, Then, Else, Where, List as Strategies, Tail as SquareTail}
use Rattle.strategy_parse.specs.declared.parser.state.PatternFrame.{PatternFrame}
use Rattle.strategy_parse.specs.declared.parser.state.PatternFrame.TheVariants.{Match, Build, Applied, Matched, Left as ClosureLeft, Right as ClosureRight, List as Patterns, Tail as PatternTail}
use Rattle.strategy_parse.specs.declared.parser.state.StrategyGroup.{StrategyGroup}
use Rattle.strategy_parse.specs.declared.parser.state.StrategyGroup.TheVariants.{Round, Square, Arguments}
use Rattle.strategy_parse.specs.declared.parser.state.PatternGroup.{PatternGroup}
use Rattle.strategy_parse.specs.declared.parser.state.PatternGroup.TheVariants.{Application as PApplication, List as PList, Tuple as PTuple, Annotations, Terms, Prim}
use Rattle.strategy_tokens.specs.Marks.{is_mark, is_word}
use Rattle.strategy_parse.specs.Core.{ordered}
use Rattle.strategy_parse.specs.inside.Parser.{order_of, Next, goes, ends, stuck, begin, begin_sign, begin_word, begin_child, begin_pattern, open_pattern, closing, after_bar, after_element, in_frame, after_choice, after_seq, after_arrow, after, closing_sign, close_patterns, pattern_bar, after_one, pattern_in_frame, after_pattern, after_base, empty_bar, rec_name, prim_name, scope_name, step}

-- What is on top of the open forms: a strategy, which may be part of a sequence; a whole choice; the second part
-- of a guarded choice; a pattern.
pub data Position : Type 0 where
  sequences : Position
  choices : Position
  others : Position
  patterns : Position

-- what is below an open list of patterns
abbrev pub below_group : PatternGroup → Position
below_group (PApplication f) = patterns
below_group PList = patterns
below_group PTuple = patterns
below_group (Annotations p) = patterns
below_group (Terms f ss) = sequences
below_group (Prim f) = sequences

abbrev pub below : PatternFrame → Position
below Match = sequences
below Build = sequences
below (Applied s) = sequences
below (Matched s) = sequences
below ClosureLeft = sequences
below (ClosureRight p) = sequences
below (Patterns g ps) = below_group g
below (PatternTail ps) = patterns

abbrev pub Fits : Position → List ParserFrame → Type 0
Fits sequences [] = Unit {0}
Fits sequences (InText ∷ S) = ⊥
Fits sequences (Operand Before s ∷ S) = Fits sequences S
Fits sequences (Operand Guarded s ∷ S) = Fits choices S
Fits sequences (Operand Otherwise s ∷ S) = Fits others S
Fits sequences (ForStrategy F ∷ S) = Fits sequences S
Fits sequences (At x ∷ S) = ⊥
Fits sequences (ForPattern F ∷ S) = ⊥
Fits choices [] = Unit {0}
Fits choices (InText ∷ S) = ⊥
Fits choices (Operand Before s ∷ S) = ⊥
Fits choices (Operand Guarded s ∷ S) = ⊥
Fits choices (Operand Otherwise s ∷ S) = Fits others S
Fits choices (ForStrategy F ∷ S) = Fits sequences S
Fits choices (At x ∷ S) = ⊥
Fits choices (ForPattern F ∷ S) = ⊥
Fits others [] = ⊥
Fits others (InText ∷ S) = ⊥
Fits others (Operand Before s ∷ S) = ⊥
Fits others (Operand Guarded s ∷ S) = Fits choices S
Fits others (Operand Otherwise s ∷ S) = ⊥
Fits others (ForStrategy F ∷ S) = ⊥
Fits others (At x ∷ S) = ⊥
Fits others (ForPattern F ∷ S) = ⊥
Fits patterns [] = Unit {0}
Fits patterns (InText ∷ S) = ⊥
Fits patterns (Operand i s ∷ S) = ⊥
Fits patterns (ForStrategy F ∷ S) = ⊥
Fits patterns (At x ∷ S) = Fits patterns S
Fits patterns (ForPattern F ∷ S) = Fits (below F) S

-- what was read last, on the forms that are open
abbrev pub stands : ParserState → Position
stands ToStrategy = sequences
stands (FirstStrategy g) = sequences
stands (Read s) = sequences
stands (Used f) = sequences
stands (Opening F) = sequences
stands AfterRec = sequences
stands AfterPrim = sequences
stands PrimOpen = sequences
stands (PrimNamed f) = sequences
stands ScopeOpen = sequences
stands (ScopeComma xs) = sequences
stands (ScopeNamed xs) = sequences
stands ToPattern = patterns
stands (FirstPattern g) = below_group g
stands (Named f) = patterns
stands (Base p) = patterns
stands (Whole p) = patterns

abbrev pub FitsNext : Next → Type 0
FitsNext (goes q S) = Fits (stands q) S
FitsNext (ends s) = Unit {0}
FitsNext stuck = Unit {0}

either : (b : Bool) (m n : Next) → FitsNext m → FitsNext n → FitsNext (if b then m else n)
either true m n h k = h
either false m n h k = k

-- ---- what begins

sign-fits : (s : Sign) (S : List ParserFrame) → Fits sequences S → FitsNext (begin_sign S s)
sign-fits Question S h = h
sign-fits Exclamation S h = h
sign-fits Less S h = h
sign-fits OpenCurly S h = h
sign-fits Backslash S h = h
sign-fits OpenRound S h = h
sign-fits OpenSquare S h = h
sign-fits s S h = tt

word-fits : (k : Keyword) (S : List ParserFrame) → Fits sequences S → FitsNext (begin_word S k)
word-fits KId S h = h
word-fits KFail S h = h
word-fits KAll S h = h
word-fits KOne S h = h
word-fits KSome S h = h
word-fits KNot S h = h
word-fits KWhere S h = h
word-fits KTest S h = h
word-fits KIf S h = h
word-fits KRec S h = h
word-fits KPrim S h = h
word-fits k S h = tt

child-fits : (z : ℤ) (S : List ParserFrame) → Fits sequences S → FitsNext (begin_child S z)
child-fits (pos (suc n)) S h = h
child-fits (pos zero) S h = tt
child-fits (negsuc n) S h = tt

begin-fits : (t : Token) (S : List ParserFrame) → Fits sequences S → FitsNext (begin S t)
begin-fits (ASign s) S h = sign-fits s S h
begin-fits (Reserved k) S h = word-fits k S h
begin-fits (Ident f) S h = h
begin-fits (Integer z) S h = child-fits z S h
begin-fits Wildcard S h = tt
begin-fits (Text f) S h = tt
begin-fits Bad S h = tt

open_pattern-fits : (s : Sign) (S : List ParserFrame) → Fits patterns S → FitsNext (open_pattern S s)
open_pattern-fits OpenSquare S h = h
open_pattern-fits OpenRound S h = h
open_pattern-fits s S h = tt

pattern-fits : (t : Token) (S : List ParserFrame) → Fits patterns S → FitsNext (begin_pattern S t)
pattern-fits Wildcard S h = h
pattern-fits (Ident f) S h = h
pattern-fits (Integer z) S h = h
pattern-fits (Text f) S h = h
pattern-fits (ASign s) S h = open_pattern-fits s S h
pattern-fits (Reserved k) S h = tt
pattern-fits Bad S h = tt

-- ---- after a strategy

bar-fits : (g : StrategyGroup) (done : List Strategy) (S : List ParserFrame) → Fits sequences S
    → FitsNext (after_bar g done S)
bar-fits Round done S h = tt
bar-fits Square done S h = h
bar-fits (Arguments f) done S h = h

element-fits : (g : StrategyGroup) (done : List Strategy) (S : List ParserFrame) (t : Token) → Fits sequences S
    → FitsNext (after_element g done S t)
element-fits g done S t h =
    either (is_mark Comma t) _ _ h
    (either (is_mark Bar t) _ _ (bar-fits g done S h) (either (is_mark (closing g) t) _ _ h tt))

frame-fits : (F : StrategyFrame) (s : Strategy) (S : List ParserFrame) (t : Token) → Fits sequences S
    → FitsNext (in_frame s F S t)
frame-fits (Operated o) s S t h = either (is_mark CloseRound t) _ _ h tt
frame-fits (Rec x) s S t h = either (is_mark CloseRound t) _ _ h tt
frame-fits (Child i) s S t h = either (is_mark CloseRound t) _ _ h tt
frame-fits (Scope xs) s S t h = either (is_mark CloseCurly t) _ _ h tt
frame-fits Application s S t h = either (is_mark Greater t) _ _ h tt
frame-fits If s S t h = either (is_word KThen t) _ _ h tt
frame-fits (Then a) s S t h = either (is_word KElse t) _ _ h (either (is_word KEnd t) _ _ h tt)
frame-fits (Else a b) s S t h = either (is_word KEnd t) _ _ h tt
frame-fits (Where p q) s S t h = either (is_mark Backslash t) _ _ h tt
frame-fits (Strategies g done) s S t h = element-fits g (done ++ s ∷ []) S t h
frame-fits (SquareTail done) s S t h = either (is_mark CloseSquare t) _ _ h tt

choice-fits : (S : List ParserFrame) (s : Strategy) (t : Token) → Fits choices S → FitsNext (after_choice s S t)
choice-fits [] s t h = tt
choice-fits (InText ∷ S) s t h = absurd h
choice-fits (Operand Otherwise b ∷ []) s t h = absurd h
choice-fits (Operand Otherwise b ∷ (Operand Guarded a ∷ S)) s t h = choice-fits S (syntax.guard a b s) t h
choice-fits (Operand Otherwise b ∷ (Operand Before a ∷ S)) s t h = absurd h
choice-fits (Operand Otherwise b ∷ (Operand Otherwise a ∷ S)) s t h = absurd h
choice-fits (Operand Otherwise b ∷ (InText ∷ S)) s t h = absurd h
choice-fits (Operand Otherwise b ∷ (At x ∷ S)) s t h = absurd h
choice-fits (Operand Otherwise b ∷ (ForStrategy F ∷ S)) s t h = absurd h
choice-fits (Operand Otherwise b ∷ (ForPattern F ∷ S)) s t h = absurd h
choice-fits (ForStrategy F ∷ S) s t h = frame-fits F s S t h
choice-fits (Operand Before a ∷ S) s t h = absurd h
choice-fits (Operand Guarded a ∷ S) s t h = absurd h
choice-fits (At x ∷ S) s t h = absurd h
choice-fits (ForPattern F ∷ S) s t h = absurd h

seq-fits : (S : List ParserFrame) (s : Strategy) (t : Token) → Fits choices S → FitsNext (after_seq s S t)
seq-fits S s t h = either (is_mark LeftChoice t) _ _ h (either (is_mark Less t) _ _ h (choice-fits S s t h))

arrow-fits : (S : List ParserFrame) (s : Strategy) (t : Token) → Fits sequences S → FitsNext (after_arrow s S t)
arrow-fits [] s t h = seq-fits [] s t h
arrow-fits (InText ∷ S) s t h = absurd h
arrow-fits (Operand Before r ∷ S) s t h = arrow-fits S (syntax.seq r s) t h
arrow-fits (Operand Guarded a ∷ S) s t h = either (is_mark Plus t) _ _ h tt
arrow-fits (Operand Otherwise b ∷ S) s t h = seq-fits (Operand Otherwise b ∷ S) s t h
arrow-fits (ForStrategy F ∷ S) s t h = seq-fits (ForStrategy F ∷ S) s t h
arrow-fits (At x ∷ S) s t h = absurd h
arrow-fits (ForPattern F ∷ S) s t h = absurd h

after-fits : (S : List ParserFrame) (s : Strategy) (t : Token) → Fits sequences S → FitsNext (after s S t)
after-fits S s t h = either (is_mark FatArrow t) _ _ h (either (is_mark Semicolon t) _ _ h (arrow-fits S s t h))

-- ---- after a pattern

closed-fits : (g : PatternGroup) (ps : List Pattern) (S : List ParserFrame) → Fits (below_group g) S
    → Fits (stands (close_patterns g ps)) S
closed-fits (PApplication f) ps S h = h
closed-fits PList ps S h = h
closed-fits PTuple ps S h = h
closed-fits (Annotations p) ps S h = h
closed-fits (Terms f ss) ps S h = h
closed-fits (Prim f) ps S h = h

pattern_bar-fits : (g : PatternGroup) (ps : List Pattern) (S : List ParserFrame) → Fits (below_group g) S
    → FitsNext (pattern_bar g ps S)
pattern_bar-fits PList ps S h = h
pattern_bar-fits (PApplication f) ps S h = tt
pattern_bar-fits PTuple ps S h = tt
pattern_bar-fits (Annotations p) ps S h = tt
pattern_bar-fits (Terms f ss) ps S h = tt
pattern_bar-fits (Prim f) ps S h = tt

one-fits : (g : PatternGroup) (ps : List Pattern) (S : List ParserFrame) (t : Token) → Fits (below_group g) S
    → FitsNext (after_one g ps S t)
one-fits g ps S t h =
    either (is_mark Comma t) _ _ h (either (is_mark (closing_sign g) t) _ _ (closed-fits g ps S h)
    (either (is_mark Bar t) _ _ (pattern_bar-fits g ps S h) tt))

pattern_frame-fits : (F : PatternFrame) (p : Pattern) (S : List ParserFrame) (t : Token) → Fits (below F) S
    → FitsNext (pattern_in_frame p F S t)
pattern_frame-fits Match p S t h = after-fits S (syntax.matches p) t h
pattern_frame-fits Build p S t h = after-fits S (syntax.builds p) t h
pattern_frame-fits (Applied s) p S t h = after-fits S (ordered (order_of S) (syntax.builds p) s) t h
pattern_frame-fits (Matched s) p S t h = after-fits S (syntax.seq s (syntax.matches p)) t h
pattern_frame-fits ClosureLeft p S t h = either (is_mark RightArrow t) _ _ h tt
pattern_frame-fits (ClosureRight l) p S t h = either (is_mark Backslash t) _ _ h (either (is_word KWhere t) _ _ h tt)
pattern_frame-fits (Patterns g ps) p S t h = one-fits g (ps ++ p ∷ []) S t h
pattern_frame-fits (PatternTail ps) p S t h = either (is_mark CloseSquare t) _ _ h tt

after_pattern-fits : (S : List ParserFrame) (p : Pattern) (t : Token) → Fits patterns S → FitsNext (after_pattern p S t)
after_pattern-fits [] p t h = tt
after_pattern-fits (InText ∷ S) p t h = absurd h
after_pattern-fits (At x ∷ S) p t h = after_pattern-fits S (syntax.at x p) t h
after_pattern-fits (ForPattern F ∷ S) p t h = pattern_frame-fits F p S t h
after_pattern-fits (Operand i s ∷ S) p t h = absurd h
after_pattern-fits (ForStrategy F ∷ S) p t h = absurd h

base-fits : (S : List ParserFrame) (p : Pattern) (t : Token) → Fits patterns S → FitsNext (after_base p S t)
base-fits S p t h = either (is_mark OpenCurly t) _ _ h (after_pattern-fits S p t h)

-- ---- one token

empty_bar-fits : (g : StrategyGroup) (S : List ParserFrame) → Fits sequences S → FitsNext (empty_bar g S)
empty_bar-fits (Arguments f) S h = h
empty_bar-fits Round S h = tt
empty_bar-fits Square S h = tt

rec-fits : (t : Token) (S : List ParserFrame) → Fits sequences S → FitsNext (rec_name S t)
rec-fits (Ident f) S h = h
rec-fits t S h = tt

prim-fits : (t : Token) (S : List ParserFrame) → Fits sequences S → FitsNext (prim_name S t)
prim-fits (Text f) S h = h
prim-fits t S h = tt

scope-fits : (t : Token) (xs : List Symbol) (S : List ParserFrame) → Fits sequences S → FitsNext (scope_name xs S t)
scope-fits (Ident f) xs S h = h
scope-fits t xs S h = tt

pub step-fits : (q : ParserState) (S : List ParserFrame) (t : Token) → Fits (stands q) S → FitsNext (step q S t)
step-fits ToStrategy S t h = begin-fits t S h
step-fits (FirstStrategy g) S t h =
    either (is_mark (closing g) t) _ _ h
    (either (is_mark Bar t) _ _ (empty_bar-fits g S h) (begin-fits t (ForStrategy (Strategies g []) ∷ S) h))
step-fits (Read s) S t h = after-fits S s t h
step-fits (Used f) S t h =
    either (is_mark OpenRound t) _ _ h (after-fits S (syntax.uses f syntax.no_strategies syntax.no_patterns) t h)
step-fits (Opening F) S t h = either (is_mark OpenRound t) _ _ h tt
step-fits AfterRec S t h = rec-fits t S h
step-fits AfterPrim S t h = either (is_mark OpenRound t) _ _ h tt
step-fits PrimOpen S t h = prim-fits t S h
step-fits (PrimNamed f) S t h = either (is_mark Comma t) _ _ h (either (is_mark CloseRound t) _ _ h tt)
step-fits ScopeOpen S t h = either (is_mark Colon t) _ _ h (scope-fits t [] S h)
step-fits (ScopeComma xs) S t h = scope-fits t xs S h
step-fits (ScopeNamed xs) S t h = either (is_mark Colon t) _ _ h (either (is_mark Comma t) _ _ h tt)
step-fits ToPattern S t h = pattern-fits t S h
step-fits (FirstPattern g) S t h =
    either (is_mark (closing_sign g) t) _ _ (closed-fits g [] S h) (pattern-fits t (ForPattern (Patterns g []) ∷ S) h)
step-fits (Named f) S t h =
    either (is_mark OpenRound t) _ _ h (either (is_mark AtSign t) _ _ h (base-fits S (syntax.variable f) t h))
step-fits (Base p) S t h = base-fits S p t h
step-fits (Whole p) S t h = after_pattern-fits S p t h
