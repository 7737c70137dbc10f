-- What the machine reads at the start of some tokens is what the grammar reads there.
use Rattle.std.proofs.Common.{◌≡◌, zero, suc, ℤ, pos, negsuc, Bool, true, false, refl, ap, ◌∙◌, List, [], ◌∷◌, ◌++◌, Some, None}
use Rattle.std.specs.Prelude.{if◌then◌else◌, ◌||◌}
use Rattle.std.specs.declared.option.Option.{Option}
use Rattle.term_core.specs.Tree.{Symbol}
use Rattle.strategy_syntax.specs.Syntax as syntax
use Rattle.strategy_syntax.specs.Syntax.{Pattern, Strategy}
use Rattle.strategy_tokens.specs.declared.token.Token.{Token}
use Rattle.strategy_tokens.specs.declared.token.Token.TheVariants.{Ident, Reserved, Integer, Text, Sign as ASign, Bad}
use Rattle.strategy_tokens.specs.declared.token.Keyword.{Keyword}
use Rattle.strategy_tokens.specs.declared.token.Keyword.TheVariants.{Id as KId, Fail as KFail, All as KAll, One as KOne, Some as KSome, Not as KNot, Where as KWhere, Test as KTest, If as KIf, Then as KThen, Else as KElse, End as KEnd, Rec as KRec, Prim as KPrim}
use Rattle.strategy_tokens.specs.declared.token.Sign.{Sign}
use Rattle.strategy_tokens.specs.declared.token.Sign.TheVariants.{OpenRound, CloseRound, OpenSquare, CloseSquare, OpenCurly, CloseCurly, Comma, Semicolon, Colon, Bar, FatArrow, Arrow as RightArrow, Less, Greater, LeftChoice, Plus, Question, Exclamation, At as AtSign, Backslash}
use Rattle.strategy_parse.specs.declared.parser.state.ParserState.{ParserState}
use Rattle.strategy_parse.specs.declared.parser.state.ParserState.TheVariants.{Strategy as ToStrategy, FirstStrategy, Read, Used, Opening, Rec as AfterRec, Prim as AfterPrim, PrimOpen, PrimNamed, ScopeOpen, ScopeComma, ScopeNamed, Pattern as ToPattern, FirstPattern, Named, Base, Whole}
use Rattle.strategy_parse.specs.declared.parser.state.ParserFrame.{ParserFrame}
use Rattle.strategy_parse.specs.declared.parser.state.ParserFrame.TheVariants.{InText, Operand, At, Strategy as ForStrategy, Pattern as ForPattern}
use Rattle.strategy_parse.specs.declared.parser.state.Infix.TheVariants.{Before, Guarded, Otherwise}
use Rattle.strategy_parse.specs.declared.parser.state.StrategyFrame.{StrategyFrame}
use Rattle.strategy_parse.specs.declared.parser.state.StrategyFrame.TheVariants.{Operator as Operated, Rec, Child, Scope, Application, If, Then, Else, Where, List as Strategies, Tail as SquareTail}
use Rattle.strategy_parse.specs.declared.parser.state.PatternFrame.{PatternFrame}
use Rattle.strategy_parse.specs.declared.parser.state.PatternFrame.TheVariants.{Match, Build, Applied, Matched, Left as ClosureLeft, Right as ClosureRight, List as Patterns, Tail as PatternTail}
use Rattle.strategy_parse.specs.declared.parser.state.StrategyGroup.{StrategyGroup}
use Rattle.strategy_parse.specs.declared.parser.state.StrategyGroup.TheVariants.{Round, Square, Arguments}
use Rattle.strategy_parse.specs.declared.parser.state.PatternGroup.{PatternGroup}
use Rattle.strategy_parse.specs.declared.parser.state.PatternGroup.TheVariants.{Application as PApplication, List as PList, Tuple as PTuple, Annotations, Terms, Prim}
use Rattle.strategy_tokens.specs.Marks.{is_mark, is_word}
use Rattle.strategy_parse.specs.Core.{ordered}
use Rattle.strategy_parse.specs.inside.Parser.{order_of, Next, goes, ends, stuck, begin, begin_sign, begin_word, begin_child, begin_pattern, open_pattern, after, after_arrow, after_seq, after_choice, in_frame, after_element, after_bar, close_strategies, closing, grouped, after_pattern, after_base, pattern_in_frame, after_one, pattern_bar, closing_sign, close_patterns, first_strategy, empty_bar, rec_name, prim_name, scope_name, begin_scope, step, front, front_of}
use Rattle.strategy_parse.proofs.Runs.{resume, at_end, go_on}
use Rattle.strategy_parse.specs.inside.Fronts.{goes_on, Stops}

-- ---- where a strategy ends, it ends before any token that doesn't continue it

abbrev NoEnd : Next → Type 0
NoEnd n = (s : Strategy) → n ≡ ends s → ⊥

goes-no : (q : ParserState) (S : List ParserFrame) → NoEnd (goes q S)
goes-no q S s e = cc

stuck-no : NoEnd stuck
stuck-no s e = cc

if-no : (b : Bool) (X Y : Next) → NoEnd X → NoEnd Y → NoEnd (if b then X else Y)
if-no true X Y x y = x
if-no false X Y x y = y

only-no : (b : Bool) (q : ParserState) (S : List ParserFrame) → NoEnd (if b then goes q S else stuck)
only-no b q S = if-no b (goes q S) stuck (goes-no q S) stuck-no

-- what is read in one case ends in the other
past : (b : Bool) (X Y : Next) (s : Strategy) → NoEnd X → (if b then X else Y) ≡ ends s → Y ≡ ends s
past true X Y s x e = absurd (x s e)
past false X Y s x e = e

-- a token with which nothing continues
pub record Quiet (u : Token) : Type 0 where
  pub round : is_mark OpenRound u ≡ false
  pub curly : is_mark OpenCurly u ≡ false
  pub at : is_mark AtSign u ≡ false
  pub fat : is_mark FatArrow u ≡ false
  pub semicolon : is_mark Semicolon u ≡ false
  pub choice : is_mark LeftChoice u ≡ false
  pub less : is_mark Less u ≡ false

pub bad_quiet : Quiet Bad
bad_quiet = record {
  round = refl;
  curly = refl;
  at = refl;
  fat = refl;
  semicolon = refl;
  choice = refl;
  less = refl;
}

or-left : (a b : Bool) → (a || b) ≡ false → a ≡ false
or-left true b e = e
or-left false b e = refl

or-right : (a b : Bool) → (a || b) ≡ false → b ≡ false
or-right true b e = absurd (cc)
or-right false b e = e

module _ (t u : Token) (k : Quiet u) where
  element-no : (g : StrategyGroup) (done : List Strategy) (S : List ParserFrame) → NoEnd (after_element g done S t)
  element-no g done S =
      if-no (is_mark Comma t) (goes ToStrategy (ForStrategy (Strategies g done) ∷ S)) _
      (goes-no ToStrategy (ForStrategy (Strategies g done) ∷ S))
      (if-no (is_mark Bar t) (after_bar g done S) (close_strategies g done S t) (bar-no g)
      (only-no (is_mark (closing g) t) (Read (grouped g done)) S)) where
        bar-no : (h : StrategyGroup) → NoEnd (after_bar h done S)
        bar-no Round = stuck-no
        bar-no Square = goes-no ToStrategy (ForStrategy (SquareTail done) ∷ S)
        bar-no (Arguments f) = goes-no (FirstPattern (Terms f done)) S

  frame-no : (F : StrategyFrame) (s : Strategy) (S : List ParserFrame) → NoEnd (in_frame s F S t)
  frame-no (Operated o) s S = only-no (is_mark CloseRound t) _ S
  frame-no (Rec x) s S = only-no (is_mark CloseRound t) _ S
  frame-no (Child i) s S = only-no (is_mark CloseRound t) _ S
  frame-no (Scope xs) s S = only-no (is_mark CloseCurly t) _ S
  frame-no Application s S = only-no (is_mark Greater t) _ _
  frame-no If s S = only-no (is_word KThen t) _ _
  frame-no (Then a) s S = if-no (is_word KElse t) (goes ToStrategy (ForStrategy (Else a s) ∷ S)) _
      (goes-no ToStrategy (ForStrategy (Else a s) ∷ S)) (only-no (is_word KEnd t) _ S)
  frame-no (Else a b) s S = only-no (is_word KEnd t) _ S
  frame-no (Where p q) s S = only-no (is_mark Backslash t) _ S
  frame-no (Strategies g done) s S = element-no g (done ++ s ∷ []) S
  frame-no (SquareTail done) s S = only-no (is_mark CloseSquare t) _ S

  choice-ends : (S : List ParserFrame) (s r : Strategy) → after_choice s S t ≡ ends r → after_choice s S u ≡ ends r
  choice-ends [] s r e = e
  choice-ends (InText ∷ S) s r e = e
  choice-ends (Operand Otherwise b ∷ []) s r e = absurd (cc)
  choice-ends (Operand Otherwise b ∷ (Operand Guarded a ∷ S)) s r e = choice-ends S (syntax.guard a b s) r e
  choice-ends (Operand Otherwise b ∷ (Operand Before a ∷ S)) s r e = absurd (cc)
  choice-ends (Operand Otherwise b ∷ (Operand Otherwise a ∷ S)) s r e = absurd (cc)
  choice-ends (Operand Otherwise b ∷ (InText ∷ S)) s r e = absurd (cc)
  choice-ends (Operand Otherwise b ∷ (At x ∷ S)) s r e = absurd (cc)
  choice-ends (Operand Otherwise b ∷ (ForStrategy F ∷ S)) s r e = absurd (cc)
  choice-ends (Operand Otherwise b ∷ (ForPattern F ∷ S)) s r e = absurd (cc)
  choice-ends (ForStrategy F ∷ S) s r e = absurd (frame-no F s S r e)
  choice-ends (Operand Before a ∷ S) s r e = absurd (cc)
  choice-ends (Operand Guarded a ∷ S) s r e = absurd (cc)
  choice-ends (At x ∷ S) s r e = absurd (cc)
  choice-ends (ForPattern F ∷ S) s r e = absurd (cc)

  seq-ends : (S : List ParserFrame) (s r : Strategy) → after_seq s S t ≡ ends r → after_seq s S u ≡ ends r
  seq-ends S s r e =
      rw (k.choice, k.less) (choice-ends S s r
      (past (is_mark Less t) (goes ToStrategy (Operand Guarded s ∷ S)) (after_choice s S t) r
      (goes-no ToStrategy (Operand Guarded s ∷ S))
      (past (is_mark LeftChoice t) (goes ToStrategy (Operand Otherwise syntax.id ∷ (Operand Guarded s ∷ S))) _ r
      (goes-no ToStrategy (Operand Otherwise syntax.id ∷ (Operand Guarded s ∷ S))) e)))

  arrow-ends : (S : List ParserFrame) (s r : Strategy) → after_arrow s S t ≡ ends r → after_arrow s S u ≡ ends r
  arrow-ends [] s r e = seq-ends [] s r e
  arrow-ends (InText ∷ S) s r e = seq-ends (InText ∷ S) s r e
  arrow-ends (Operand Before a ∷ S) s r e = arrow-ends S (syntax.seq a s) r e
  arrow-ends (Operand Guarded a ∷ S) s r e = absurd (only-no (is_mark Plus t) _ _ r e)
  arrow-ends (Operand Otherwise b ∷ S) s r e = seq-ends (Operand Otherwise b ∷ S) s r e
  arrow-ends (ForStrategy F ∷ S) s r e = seq-ends (ForStrategy F ∷ S) s r e
  arrow-ends (At x ∷ S) s r e = seq-ends (At x ∷ S) s r e
  arrow-ends (ForPattern F ∷ S) s r e = seq-ends (ForPattern F ∷ S) s r e

  after-ends : (S : List ParserFrame) (s r : Strategy) → after s S t ≡ ends r → after s S u ≡ ends r
  after-ends S s r e =
      rw (k.fat, k.semicolon) (arrow-ends S s r
      (past (is_mark Semicolon t) (goes ToStrategy (Operand Before s ∷ S)) (after_arrow s S t) r
      (goes-no ToStrategy (Operand Before s ∷ S))
      (past (is_mark FatArrow t) (goes ToPattern (ForPattern (Matched s) ∷ S)) _ r
      (goes-no ToPattern (ForPattern (Matched s) ∷ S)) e)))

  one-no : (g : PatternGroup) (ps : List Pattern) (S : List ParserFrame) → NoEnd (after_one g ps S t)
  one-no g ps S =
      if-no (is_mark Comma t) (goes ToPattern (ForPattern (Patterns g ps) ∷ S)) _
      (goes-no ToPattern (ForPattern (Patterns g ps) ∷ S))
      (if-no (is_mark (closing_sign g) t) (goes (close_patterns g ps) S) _ (goes-no (close_patterns g ps) S)
      (if-no (is_mark Bar t) (pattern_bar g ps S) stuck (bar-no g) stuck-no)) where
        bar-no : (h : PatternGroup) → NoEnd (pattern_bar h ps S)
        bar-no PList = goes-no ToPattern (ForPattern (PatternTail ps) ∷ S)
        bar-no (PApplication f) = stuck-no
        bar-no PTuple = stuck-no
        bar-no (Annotations p) = stuck-no
        bar-no (Terms f ss) = stuck-no
        bar-no (Prim f) = stuck-no

  pattern_frame-ends : (F : PatternFrame) (p : Pattern) (S : List ParserFrame) (r : Strategy)
      → pattern_in_frame p F S t ≡ ends r → pattern_in_frame p F S u ≡ ends r
  pattern_frame-ends Match p S r e = after-ends S (syntax.matches p) r e
  pattern_frame-ends Build p S r e = after-ends S (syntax.builds p) r e
  pattern_frame-ends (Applied s) p S r e = after-ends S (ordered (order_of S) (syntax.builds p) s) r e
  pattern_frame-ends (Matched s) p S r e = after-ends S (syntax.seq s (syntax.matches p)) r e
  pattern_frame-ends ClosureLeft p S r e = absurd (only-no (is_mark RightArrow t) _ _ r e)
  pattern_frame-ends (ClosureRight l) p S r e =
      absurd (if-no (is_mark Backslash t) _ _ (goes-no _ _) (only-no (is_word KWhere t) _ _) r e)
  pattern_frame-ends (Patterns g ps) p S r e = absurd (one-no g (ps ++ p ∷ []) S r e)
  pattern_frame-ends (PatternTail ps) p S r e = absurd (only-no (is_mark CloseSquare t) _ _ r e)

  pattern-ends : (S : List ParserFrame) (p : Pattern) (r : Strategy) → after_pattern p S t ≡ ends r
      → after_pattern p S u ≡ ends r
  pattern-ends [] p r e = e
  pattern-ends (InText ∷ S) p r e = absurd (cc)
  pattern-ends (At x ∷ S) p r e = pattern-ends S (syntax.at x p) r e
  pattern-ends (ForPattern F ∷ S) p r e = pattern_frame-ends F p S r e
  pattern-ends (Operand Before a ∷ S) p r e = absurd (cc)
  pattern-ends (Operand Guarded a ∷ S) p r e = absurd (cc)
  pattern-ends (Operand Otherwise b ∷ S) p r e = absurd (cc)
  pattern-ends (ForStrategy F ∷ S) p r e = absurd (cc)

  base-ends : (S : List ParserFrame) (p : Pattern) (r : Strategy) → after_base p S t ≡ ends r
      → after_base p S u ≡ ends r
  base-ends S p r e = rw k.curly (pattern-ends S p r (past (is_mark OpenCurly t) (goes (FirstPattern (Annotations p)) S)
      (after_pattern p S t) r (goes-no (FirstPattern (Annotations p)) S) e))

-- ---- a beginning never ends

open_pattern-no : (s : Sign) (S : List ParserFrame) → NoEnd (open_pattern S s)
open_pattern-no OpenSquare S r e = cc
open_pattern-no OpenRound S r e = cc
open_pattern-no s S r e = cc

begin_pattern-no : (t : Token) (S : List ParserFrame) → NoEnd (begin_pattern S t)
begin_pattern-no (ASign s) S = open_pattern-no s S
begin_pattern-no t S = λ r e. cc

begin_sign-no : (s : Sign) (S : List ParserFrame) → NoEnd (begin_sign S s)
begin_sign-no Question S r e = cc
begin_sign-no Exclamation S r e = cc
begin_sign-no Less S r e = cc
begin_sign-no OpenCurly S r e = cc
begin_sign-no Backslash S r e = cc
begin_sign-no OpenRound S r e = cc
begin_sign-no OpenSquare S r e = cc
begin_sign-no s S r e = cc

begin_word-no : (w : Keyword) (S : List ParserFrame) → NoEnd (begin_word S w)
begin_word-no KId S r e = cc
begin_word-no KFail S r e = cc
begin_word-no KAll S r e = cc
begin_word-no KOne S r e = cc
begin_word-no KSome S r e = cc
begin_word-no KNot S r e = cc
begin_word-no KWhere S r e = cc
begin_word-no KTest S r e = cc
begin_word-no KIf S r e = cc
begin_word-no KRec S r e = cc
begin_word-no KPrim S r e = cc
begin_word-no w S r e = cc

begin_child-no : (z : ℤ) (S : List ParserFrame) → NoEnd (begin_child S z)
begin_child-no (pos (suc n)) S r e = cc
begin_child-no (pos zero) S r e = cc
begin_child-no (negsuc n) S r e = cc

begin-no : (t : Token) (S : List ParserFrame) → NoEnd (begin S t)
begin-no (ASign s) S = begin_sign-no s S
begin-no (Reserved w) S = begin_word-no w S
begin-no (Integer z) S = begin_child-no z S
begin-no t S = λ r e. cc

rec-no : (t : Token) (S : List ParserFrame) → NoEnd (rec_name S t)
rec-no (Ident f) S r e = cc
rec-no t S r e = cc

prim-no : (t : Token) (S : List ParserFrame) → NoEnd (prim_name S t)
prim-no (Text f) S r e = cc
prim-no t S r e = cc

scope-no : (t : Token) (xs : List Symbol) (S : List ParserFrame) → NoEnd (scope_name xs S t)
scope-no (Ident f) xs S r e = cc
scope-no t xs S r e = cc

module _ (t u : Token) (k : Quiet u) where
  pub step-ends : (q : ParserState) (S : List ParserFrame) (r : Strategy) → step q S t ≡ ends r → step q S u ≡ ends r
  step-ends ToStrategy S r e = absurd (begin-no t S r e)
  step-ends (FirstStrategy g) S r e = absurd (first-no r e) where
    bar-no : (h : StrategyGroup) → NoEnd (empty_bar h S)
    bar-no Round = stuck-no
    bar-no Square = stuck-no
    bar-no (Arguments f) = goes-no (FirstPattern (Terms f [])) S

    first-no : NoEnd (first_strategy g S t)
    first-no = if-no (is_mark (closing g) t) (goes (Read (grouped g [])) S) _ (goes-no (Read (grouped g [])) S)
        (if-no (is_mark Bar t) (empty_bar g S) _ (bar-no g) (begin-no t (ForStrategy (Strategies g []) ∷ S)))
  step-ends (Read s) S r e = after-ends t u k S s r e
  step-ends (Used f) S r e = rw k.round
      (after-ends t u k S (syntax.uses f syntax.no_strategies syntax.no_patterns) r (past (is_mark OpenRound t)
      (goes (FirstStrategy (Arguments f)) S) (after (syntax.uses f syntax.no_strategies syntax.no_patterns) S t) r
      (goes-no (FirstStrategy (Arguments f)) S) e))
  step-ends (Opening F) S r e = absurd (only-no (is_mark OpenRound t) _ _ r e)
  step-ends AfterRec S r e = absurd (rec-no t S r e)
  step-ends AfterPrim S r e = absurd (only-no (is_mark OpenRound t) _ _ r e)
  step-ends PrimOpen S r e = absurd (prim-no t S r e)
  step-ends (PrimNamed f) S r e =
      absurd (if-no (is_mark Comma t) _ _ (goes-no _ _) (only-no (is_mark CloseRound t) _ _) r e)
  step-ends ScopeOpen S r e = absurd (if-no (is_mark Colon t) (begin_scope [] S) _ (goes-no _ _) (scope-no t [] S) r e)
  step-ends (ScopeComma xs) S r e = absurd (scope-no t xs S r e)
  step-ends (ScopeNamed xs) S r e =
      absurd (if-no (is_mark Colon t) (begin_scope xs S) _ (goes-no _ _) (only-no (is_mark Comma t) _ _) r e)
  step-ends ToPattern S r e = absurd (begin_pattern-no t S r e)
  step-ends (FirstPattern g) S r e = absurd (if-no (is_mark (closing_sign g) t) (goes (close_patterns g []) S) _
      (goes-no (close_patterns g []) S) (begin_pattern-no t (ForPattern (Patterns g []) ∷ S)) r e)
  step-ends (Named f) S r e = rw (k.round, k.at) (base-ends t u k S (syntax.variable f) r
      (past (is_mark AtSign t) (goes ToPattern (At f ∷ S)) (after_base (syntax.variable f) S t) r
      (goes-no ToPattern (At f ∷ S))
      (past (is_mark OpenRound t) (goes (FirstPattern (PApplication f)) S) _ r
      (goes-no (FirstPattern (PApplication f)) S) e)))
  step-ends (Base p) S r e = base-ends t u k S p r e
  step-ends (Whole p) S r e = pattern-ends t u k S p r e

stops_quiet : (t : Token) → goes_on t ≡ false → Quiet t
stops_quiet t e =
    let e1 = or-right (is_mark OpenRound t) _ e in
    let e2 = or-right (is_mark OpenCurly t) _ e1 in
    let e3 = or-right (is_mark AtSign t) _ e2 in
    let e4 = or-right (is_mark FatArrow t) _ e3 in
    let e5 = or-right (is_mark Semicolon t) _ e4 in
    record {
      round = or-left (is_mark OpenRound t) _ e;
      curly = or-left (is_mark OpenCurly t) _ e1;
      at = or-left (is_mark AtSign t) _ e2;
      fat = or-left (is_mark FatArrow t) _ e3;
      semicolon = or-left (is_mark Semicolon t) _ e4;
      choice = or-left (is_mark LeftChoice t) _ e5;
      less = or-right (is_mark LeftChoice t) _ e5;
    }

-- ---- a run over the start

abbrev Fronts : ParserState → List ParserFrame → List Token → Strategy → List Token → Type 0
Fronts q S x s y = front (step q S) x ≡ Some (s, y)

end-is : (n : Next) (s : Strategy) → at_end n ≡ Some s → n ≡ ends s
end-is (goes q S) s e = absurd (cc)
end-is (ends r) s e = cc
end-is stuck s e = absurd (cc)

stop_front : (q : ParserState) (S : List ParserFrame) (y : List Token) (s : Strategy) → Stops y → step q S Bad ≡ ends s
    → Fronts q S y s y
stop_front q S [] s h e = ap (front_of (λ p T. None) []) e
stop_front q S (t ∷ ts) s h e =
    ap (front_of (λ p T. front (step p T) ts) (t ∷ ts)) (step-ends Bad t (stops_quiet t h) q S s e)

next_front : (w : List Token) (t : Token) (y : List Token) (s : Strategy)
    → ((p : ParserState) (T : List ParserFrame) → resume (step p T) w ≡ Some s → Fronts p T (w ++ y) s y) → (n : Next)
    → go_on (λ p T. resume (step p T) w) n ≡ Some s
    → front_of (λ p T. front (step p T) (w ++ y)) (t ∷ (w ++ y)) n ≡ Some (s, y)
next_front w t y s more (goes p T) e = more p T e
next_front w t y s more (ends r) e = absurd (cc)
next_front w t y s more stuck e = absurd (cc)

pub resumed_front : (w : List Token) (q : ParserState) (S : List ParserFrame) (y : List Token) (s : Strategy) → Stops y
    → resume (step q S) w ≡ Some s → Fronts q S (w ++ y) s y
resumed_front [] q S y s h e = stop_front q S y s h (end-is (step q S Bad) s e)
resumed_front (t ∷ w) q S y s h e = next_front w t y s (λ p T k. resumed_front w p T y s h k) (step q S t) e

-- what was read, if x begins with s and y is the rest
pub record Taken (q : ParserState) (S : List ParserFrame) (x : List Token) (s : Strategy)
    (y : List Token) : Type 0 where
  pub taken : List Token
  pub splits : x ≡ taken ++ y
  pub gives : resume (step q S) taken ≡ Some s

same_pair : (r s : Strategy) (x y : List Token) → ◌≡◌ {A = Option (Strategy × List Token)} (Some (r, x)) (Some (s, y))
    → (r ≡ s) × (x ≡ y)
same_pair r s x y e =
    let same : ◌≡◌ {A = Strategy × List Token} (r, x) (s, y) = cc in
    (ap (λ (p : Strategy × List Token). p.0) same, ap (λ (p : Strategy × List Token). p.1) same)

ended : (q : ParserState) (S : List ParserFrame) (x y : List Token) (r s : Strategy) → step q S Bad ≡ ends r
    → ◌≡◌ {A = Option (Strategy × List Token)} (Some (r, x)) (Some (s, y)) → Taken q S x s y
ended q S x y r s e h =
    let same = same_pair r s x y h in
    record { taken = []; splits = same.1; gives = ap at_end e ∙ ap Some same.0 }

last_taken : (n : Next) (q : ParserState) (S : List ParserFrame) (s : Strategy) (y : List Token)
    → step q S Bad ≡ n → front_of (λ p T. None) [] n ≡ Some (s, y) → Taken q S [] s y
last_taken (goes p T) q S s y h e = absurd (cc)
last_taken (ends r) q S s y h e = ended q S [] y r s h e
last_taken stuck q S s y h e = absurd (cc)

next_taken : (x : List Token) (s : Strategy) (y : List Token)
    → ((p : ParserState) (T : List ParserFrame) → Fronts p T x s y → Taken p T x s y)
    → (n : Next) (t : Token) (q : ParserState) (S : List ParserFrame)
    → step q S t ≡ n → front_of (λ p T. front (step p T) x) (t ∷ x) n ≡ Some (s, y) → Taken q S (t ∷ x) s y
next_taken x s y more (goes p T) t q S h e =
    let rest = more p T e in
    record {
      taken = t ∷ rest.taken;
      splits = ap (λ l. t ∷ l) rest.splits;
      gives = ap (go_on (λ p T. resume (step p T) rest.taken)) h ∙ rest.gives;
    }
next_taken x s y more (ends r) t q S h e = ended q S (t ∷ x) y r s (step-ends t Bad bad_quiet q S r h) e
next_taken x s y more stuck t q S h e = absurd (cc)

pub front_taken : (x : List Token) (q : ParserState) (S : List ParserFrame) (s : Strategy) (y : List Token)
    → Fronts q S x s y → Taken q S x s y
front_taken [] q S s y e = last_taken (step q S Bad) q S s y refl e
front_taken (t ∷ x) q S s y e = next_taken x s y (λ p T k. front_taken x p T s y k) (step q S t) t q S refl e
