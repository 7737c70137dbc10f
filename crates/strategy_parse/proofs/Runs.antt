-- What the machine accepts, and where it is stuck.
use Rattle.std.proofs.Common.{◌≡◌, Bool, true, false, ◌||◌, refl, sym, ap, ◌∙◌, subst, inl, inr, List, [], ◌∷◌, ◌++◌, Some, None}
use Rattle.std.specs.Prelude.{if◌then◌else◌, ◌⊎◌}
use Rattle.std.specs.declared.option.Option.{Option}
use Rattle.strategy_syntax.specs.Syntax as syntax
use Rattle.strategy_syntax.specs.Syntax.{Pattern, at, Strategy}
use Rattle.strategy_tokens.specs.declared.token.Token.{Token}
use Rattle.strategy_tokens.specs.declared.token.Token.TheVariants.{Reserved, Sign as ASign, Bad}
use Rattle.strategy_tokens.specs.declared.token.Keyword.{Keyword}
use Rattle.strategy_tokens.specs.declared.token.Keyword.TheVariants.{Where as KWhere, Then as KThen, Else as KElse, End as KEnd}
use Rattle.strategy_tokens.specs.declared.token.Sign.{Sign}
use Rattle.strategy_tokens.specs.declared.token.Sign.TheVariants.{OpenRound, CloseRound, CloseSquare, OpenCurly, CloseCurly, Comma, Semicolon, Bar, FatArrow, Arrow as RightArrow, Less, Greater, LeftChoice, Plus, At as AtSign, Backslash}
use Rattle.strategy_parse.specs.declared.parser.state.ParserState.{ParserState}
use Rattle.strategy_parse.specs.declared.parser.state.ParserFrame.{ParserFrame}
use Rattle.strategy_parse.specs.declared.parser.state.ParserFrame.TheVariants.{InText, Operand, At, Strategy as ForStrategy, Pattern as ForPattern}
use Rattle.strategy_parse.specs.declared.parser.state.Infix.TheVariants.{Before, Guarded, Otherwise}
use Rattle.strategy_parse.specs.declared.parser.state.StrategyFrame.{StrategyFrame}
use Rattle.strategy_parse.specs.declared.parser.state.StrategyFrame.TheVariants.{Operator as Operated, Rec, Child, Scope, Application, If, Then, Else, Where, List as Strategies, Tail as SquareTail}
use Rattle.strategy_parse.specs.declared.parser.state.PatternFrame.{PatternFrame}
use Rattle.strategy_parse.specs.declared.parser.state.PatternFrame.TheVariants.{Match, Build, Applied, Matched, Left as ClosureLeft, Right as ClosureRight, List as Patterns, Tail as PatternTail}
use Rattle.strategy_parse.specs.declared.parser.state.StrategyGroup.{StrategyGroup}
use Rattle.strategy_parse.specs.declared.parser.state.StrategyGroup.TheVariants.{Round, Square, Arguments}
use Rattle.strategy_parse.specs.declared.parser.state.PatternGroup.{PatternGroup}
use Rattle.strategy_parse.specs.declared.parser.state.PatternGroup.TheVariants.{Application as PApplication, List as PList, Tuple as PTuple, Annotations, Terms, Prim}
use Rattle.strategy_tokens.specs.Marks.{is_mark, is_word}
use Rattle.strategy_parse.specs.Core.{ordered}
use Rattle.strategy_parse.specs.inside.Parser.{Next, order_of, stuck, after, after_arrow, after_choice, in_frame, after_element, after_pattern, pattern_in_frame, after_one, step, goes, ends}
use Rattle.strategy_tokens.proofs.MarkLemmas.{mark_is, word_is}

abbrev pub at_end : Next → Option Strategy
at_end (goes q S) = None
at_end (ends s) = Some s
at_end stuck = None

abbrev pub go_on : (ParserState → List ParserFrame → Option Strategy) → Next → Option Strategy
go_on k (goes q S) = k q S
go_on k (ends s) = None
go_on k stuck = None

-- what the tokens give, if f is the effect of the first one
abbrev pub resume : (Token → Next) → List Token → Option Strategy
resume f [] = at_end (f Bad)
resume f (t ∷ ts) = go_on (λ q S. resume (step q S) ts) (f t)

-- if f is the effect of the first token, the tokens give the strategy
abbrev pub Accepts : (Token → Next) → List Token → Strategy → Type 0
Accepts f x r = resume f x ≡ Some r

-- ... and from a place reached already
abbrev pub Goes : Next → List Token → Strategy → Type 0
Goes n x r = go_on (λ q S. resume (step q S) x) n ≡ Some r

-- ---- tokens that end no open form

pub record NoEnd (t : Token) : Type 0 where
  pub round : is_mark CloseRound t ≡ false
  pub square : is_mark CloseSquare t ≡ false
  pub curly : is_mark CloseCurly t ≡ false
  pub comma : is_mark Comma t ≡ false
  pub bar : is_mark Bar t ≡ false
  pub greater : is_mark Greater t ≡ false
  pub backslash : is_mark Backslash t ≡ false
  pub arrow : is_mark RightArrow t ≡ false
  pub plus : is_mark Plus t ≡ false
  pub then_word : is_word KThen t ≡ false
  pub else_word : is_word KElse t ≡ false
  pub end_word : is_word KEnd t ≡ false
  pub where_word : is_word KWhere t ≡ false

-- whether the token ends an open form
abbrev ends_some : Token → Bool
ends_some t = is_mark CloseRound t || (is_mark CloseSquare t || (is_mark CloseCurly t
    || (is_mark Comma t || (is_mark Bar t || (is_mark Greater t || (is_mark Backslash t || (is_mark RightArrow t
    || (is_mark Plus t || (is_word KThen t || (is_word KElse t || (is_word KEnd t || (is_word KWhere t))))))))))))

neither : (a b : Bool) → (a || b) ≡ false → (a ≡ false) × (b ≡ false)
neither true b e = absurd (cc)
neither false b e = (refl, e)

no_end : (t : Token) → ends_some t ≡ false → NoEnd t
no_end t h =
    let e0 = neither _ _ h in
    let e1 = neither _ _ e0.1 in
    let e2 = neither _ _ e1.1 in
    let e3 = neither _ _ e2.1 in
    let e4 = neither _ _ e3.1 in
    let e5 = neither _ _ e4.1 in
    let e6 = neither _ _ e5.1 in
    let e7 = neither _ _ e6.1 in
    let e8 = neither _ _ e7.1 in
    let e9 = neither _ _ e8.1 in
    let e10 = neither _ _ e9.1 in
    let e11 = neither _ _ e10.1 in
    record {
      round = e0.0;
      square = e1.0;
      curly = e2.0;
      comma = e3.0;
      bar = e4.0;
      greater = e5.0;
      backslash = e6.0;
      arrow = e7.0;
      plus = e8.0;
      then_word = e9.0;
      else_word = e10.0;
      end_word = e11.0;
      where_word = e11.1;
    }

pub open_round : NoEnd (ASign OpenRound)
open_round = no_end (ASign OpenRound) refl

pub open_curly : NoEnd (ASign OpenCurly)
open_curly = no_end (ASign OpenCurly) refl

pub at_sign : NoEnd (ASign AtSign)
at_sign = no_end (ASign AtSign) refl

pub fat_arrow : NoEnd (ASign FatArrow)
fat_arrow = no_end (ASign FatArrow) refl

pub semicolon : NoEnd (ASign Semicolon)
semicolon = no_end (ASign Semicolon) refl

pub left_choice_sign : NoEnd (ASign LeftChoice)
left_choice_sign = no_end (ASign LeftChoice) refl

pub less : NoEnd (ASign Less)
less = no_end (ASign Less) refl

abbrev pub Refuses : Next → Type 0
Refuses n = (K : ParserState → List ParserFrame → Option Strategy) → go_on K n ≡ None

module _ (t : Token) (h : NoEnd t) where
  group-stuck : (g : StrategyGroup) (done : List Strategy) (S : List ParserFrame) → Refuses (after_element g done S t)
  group-stuck Round done S K = rw (h.comma, h.bar, h.round) refl
  group-stuck Square done S K = rw (h.comma, h.bar, h.square) refl
  group-stuck (Arguments f) done S K = rw (h.comma, h.bar, h.round) refl

  frame-stuck : (F : StrategyFrame) (s : Strategy) (S : List ParserFrame) → Refuses (in_frame s F S t)
  frame-stuck (Operated o) s S K = rw h.round refl
  frame-stuck (Rec x) s S K = rw h.round refl
  frame-stuck (Child i) s S K = rw h.round refl
  frame-stuck (Scope xs) s S K = rw h.curly refl
  frame-stuck Application s S K = rw h.greater refl
  frame-stuck If s S K = rw h.then_word refl
  frame-stuck (Then a) s S K = rw (h.else_word, h.end_word) refl
  frame-stuck (Else a b) s S K = rw h.end_word refl
  frame-stuck (Where p q) s S K = rw h.backslash refl
  frame-stuck (Strategies g done) s S K = group-stuck g (done ++ s ∷ []) S K
  frame-stuck (SquareTail done) s S K = rw h.square refl

  pub choice-stuck : (S : List ParserFrame) (s : Strategy) → Refuses (after_choice s S t)
  choice-stuck [] s K = refl
  choice-stuck (InText ∷ S) s K = refl
  choice-stuck (Operand Otherwise b ∷ []) s K = refl
  choice-stuck (Operand Otherwise b ∷ (Operand Guarded a ∷ S)) s K = choice-stuck S (syntax.guard a b s) K
  choice-stuck (Operand Otherwise b ∷ (Operand Before a ∷ S)) s K = refl
  choice-stuck (Operand Otherwise b ∷ (Operand Otherwise a ∷ S)) s K = refl
  choice-stuck (Operand Otherwise b ∷ (InText ∷ S)) s K = refl
  choice-stuck (Operand Otherwise b ∷ (At x ∷ S)) s K = refl
  choice-stuck (Operand Otherwise b ∷ (ForStrategy F ∷ S)) s K = refl
  choice-stuck (Operand Otherwise b ∷ (ForPattern F ∷ S)) s K = refl
  choice-stuck (ForStrategy F ∷ S) s K = frame-stuck F s S K
  choice-stuck (Operand Before a ∷ S) s K = refl
  choice-stuck (Operand Guarded a ∷ S) s K = refl
  choice-stuck (At x ∷ S) s K = refl
  choice-stuck (ForPattern F ∷ S) s K = refl

  module _ (choice : is_mark LeftChoice t ≡ false) (lesser : is_mark Less t ≡ false) where
    pub arrow-stuck : (S : List ParserFrame) (s : Strategy) → Refuses (after_arrow s S t)
    arrow-stuck [] s K = rw (choice, lesser) refl
    arrow-stuck (InText ∷ S) s K = rw (choice, lesser) refl
    arrow-stuck (Operand Before a ∷ S) s K = arrow-stuck S (syntax.seq a s) K
    arrow-stuck (Operand Guarded a ∷ S) s K = rw h.plus refl
    arrow-stuck (Operand Otherwise b ∷ S) s K = rw (choice, lesser) (choice-stuck (Operand Otherwise b ∷ S) s K)
    arrow-stuck (ForStrategy F ∷ S) s K = rw (choice, lesser) (choice-stuck (ForStrategy F ∷ S) s K)
    arrow-stuck (At x ∷ S) s K = rw (choice, lesser) refl
    arrow-stuck (ForPattern F ∷ S) s K = rw (choice, lesser) refl

    module _ (fat : is_mark FatArrow t ≡ false) (semi : is_mark Semicolon t ≡ false) where
      pub after-stuck : (S : List ParserFrame) (s : Strategy) → Refuses (after s S t)
      after-stuck S s K = rw (fat, semi) (arrow-stuck S s K)

      one-stuck : (g : PatternGroup) (ps : List Pattern) (S : List ParserFrame) → Refuses (after_one g ps S t)
      one-stuck (PApplication f) ps S K = rw (h.comma, h.round, h.bar) refl
      one-stuck PList ps S K = rw (h.comma, h.square, h.bar) refl
      one-stuck PTuple ps S K = rw (h.comma, h.round, h.bar) refl
      one-stuck (Annotations p) ps S K = rw (h.comma, h.curly, h.bar) refl
      one-stuck (Terms f ss) ps S K = rw (h.comma, h.round, h.bar) refl
      one-stuck (Prim f) ps S K = rw (h.comma, h.round, h.bar) refl

      pattern_frame-stuck : (F : PatternFrame) (p : Pattern) (S : List ParserFrame) → Refuses (pattern_in_frame p F S t)
      pattern_frame-stuck Match p S K = after-stuck S (syntax.matches p) K
      pattern_frame-stuck Build p S K = after-stuck S (syntax.builds p) K
      pattern_frame-stuck (Applied s) p S K = after-stuck S (ordered (order_of S) (syntax.builds p) s) K
      pattern_frame-stuck (Matched s) p S K = after-stuck S (syntax.seq s (syntax.matches p)) K
      pattern_frame-stuck ClosureLeft p S K = rw h.arrow refl
      pattern_frame-stuck (ClosureRight l) p S K = rw (h.backslash, h.where_word) refl
      pattern_frame-stuck (Patterns g ps) p S K = one-stuck g (ps ++ p ∷ []) S K
      pattern_frame-stuck (PatternTail ps) p S K = rw h.square refl

      pub pattern-stuck : (S : List ParserFrame) (p : Pattern) → Refuses (after_pattern p S t)
      pattern-stuck [] p K = refl
      pattern-stuck (InText ∷ S) p K = refl
      pattern-stuck (At x ∷ S) p K = pattern-stuck S (at x p) K
      pattern-stuck (ForPattern F ∷ S) p K = pattern_frame-stuck F p S K
      pattern-stuck (Operand Before a ∷ S) p K = refl
      pattern-stuck (Operand Guarded a ∷ S) p K = refl
      pattern-stuck (Operand Otherwise b ∷ S) p K = refl
      pattern-stuck (ForStrategy F ∷ S) p K = refl

-- ---- tests for one sign

pub none_some : (o : Option Strategy) (r : Strategy) → o ≡ None → o ≡ Some r → ⊥
none_some o r h k = let no : ◌≡◌ {A = Option Strategy} None (Some r) = sym h ∙ k in cc

skip : (b : Bool) (X Y : Next) (y : List Token) (r : Strategy) → (b ≡ true → Refuses Y) → Goes Y y r
    → Goes (if b then X else Y) y r
skip true X Y y r h k =
    absurd (none_some (go_on (λ q S. resume (step q S) y) Y) r (h refl (λ q S. resume (step q S) y)) k)
skip false X Y y r h k = k

-- a test for a sign that f is stuck at changes nothing
pub passes : (m : Sign) (X : Next) (f : Token → Next) (x : List Token) (r : Strategy) → Refuses (f (ASign m))
    → Accepts f x r → Accepts (λ t. if (is_mark m t) then X else f t) x r
passes m X f [] r h k = k
passes m X f (t ∷ ts) r h k =
    skip (is_mark m t) X (f t) ts r (λ e. subst (λ u. Refuses (f u)) (sym (mark_is m t e)) h) k

-- the token is the sign, or its effect is that of f
abbrev pub AtMark : Sign → Next → (Token → Next) → List Token → Strategy → Type 0
AtMark m X f x r = ((y : List Token) × (x ≡ ASign m ∷ y) × Goes X y r) ⊎ Accepts f x r

by_test : (m : Sign) (X : Next) (f : Token → Next) (t : Token) (ts : List Token) (r : Strategy) (b : Bool)
    → is_mark m t ≡ b → Goes (if b then X else f t) ts r → AtMark m X f (t ∷ ts) r
by_test m X f t ts r true e k = inl (ts, ap (λ u. u ∷ ts) (mark_is m t e), k)
by_test m X f t ts r false e k = inr k

pub at_mark : (m : Sign) (X : Next) (f : Token → Next) (x : List Token) (r : Strategy)
    → Accepts (λ t. if (is_mark m t) then X else f t) x r → AtMark m X f x r
at_mark m X f [] r k = inr k
at_mark m X f (t ∷ ts) r k = by_test m X f t ts r (is_mark m t) refl k

-- the same for a reserved word
abbrev pub AtWord : Keyword → Next → (Token → Next) → List Token → Strategy → Type 0
AtWord m X f x r = ((y : List Token) × (x ≡ Reserved m ∷ y) × Goes X y r) ⊎ Accepts f x r

by_word : (m : Keyword) (X : Next) (f : Token → Next) (t : Token) (ts : List Token) (r : Strategy) (b : Bool)
    → is_word m t ≡ b → Goes (if b then X else f t) ts r → AtWord m X f (t ∷ ts) r
by_word m X f t ts r true e k = inl (ts, ap (λ u. u ∷ ts) (word_is m t e), k)
by_word m X f t ts r false e k = inr k

pub at_word : (m : Keyword) (X : Next) (f : Token → Next) (x : List Token) (r : Strategy)
    → Accepts (λ t. if (is_word m t) then X else f t) x r → AtWord m X f x r
at_word m X f [] r k = inr k
at_word m X f (t ∷ ts) r k = by_word m X f t ts r (is_word m t) refl k

pub no_accepts : (x : List Token) (r : Strategy) → Accepts (λ t. stuck) x r → ⊥
no_accepts [] r k = cc
no_accepts (t ∷ ts) r k = cc

-- only one sign is accepted
pub only_mark : (m : Sign) (X : Next) (x : List Token) (r : Strategy)
    → Accepts (λ t. if (is_mark m t) then X else stuck) x r → (y : List Token) × (x ≡ ASign m ∷ y) × Goes X y r
only_mark m X x r k = elim (at_mark m X (λ t. stuck) x r k) [
  | inl found ↦ found
  | inr other ↦ absurd (no_accepts x r other)
]

pub only_word : (m : Keyword) (X : Next) (x : List Token) (r : Strategy)
    → Accepts (λ t. if (is_word m t) then X else stuck) x r → (y : List Token) × (x ≡ Reserved m ∷ y) × Goes X y r
only_word m X x r k = elim (at_word m X (λ t. stuck) x r k) [
  | inl found ↦ found
  | inr other ↦ absurd (no_accepts x r other)
]
