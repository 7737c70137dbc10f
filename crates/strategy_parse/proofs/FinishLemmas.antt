-- Wherever the machine is, there are tokens with which it reads a whole strategy.
use Rattle.std.proofs.Common.{◌≡◌, refl, ap, ◌∙◌, List, [], ◌∷◌, ◌++◌}
use Rattle.std.specs.Prelude.{codes, false}
use Rattle.term_core.specs.Tree.{Symbol, same_name}
use Rattle.strategy_syntax.specs.Syntax as syntax
use Rattle.strategy_syntax.specs.Syntax.{Pattern, wildcard, variable, annotated, with_tail, no_patterns, patterns_of, Strategy, strategies_of}
use Rattle.strategy_syntax.specs.Variables.{variables}
use Rattle.strategy_syntax.specs.Lists.{first_ones}
use Rattle.strategy_tokens.specs.declared.token.Token.{Token}
use Rattle.strategy_tokens.specs.declared.token.Token.TheVariants.{Ident, Wildcard, Reserved, Text, Sign as ASign}
use Rattle.strategy_tokens.specs.declared.token.Keyword.TheVariants.{Id as KId, Then as KThen, End as KEnd}
use Rattle.strategy_tokens.specs.declared.token.Sign.TheVariants.{OpenRound, CloseRound, CloseSquare, CloseCurly, Colon, Arrow as RightArrow, Greater, Plus, Backslash}
use Rattle.strategy_parse.specs.declared.parser.state.ParserState.{ParserState}
use Rattle.strategy_parse.specs.declared.parser.state.ParserState.TheVariants.{Strategy as ToStrategy, FirstStrategy, Read, Used, Opening, Rec as AfterRec, Prim as AfterPrim, PrimOpen, PrimNamed, ScopeOpen, ScopeComma, ScopeNamed, Pattern as ToPattern, FirstPattern, Named, Base, Whole}
use Rattle.strategy_parse.specs.declared.parser.state.ParserFrame.{ParserFrame}
use Rattle.strategy_parse.specs.declared.parser.state.ParserFrame.TheVariants.{InText, Operand, At, Strategy as ForStrategy, Pattern as ForPattern}
use Rattle.strategy_parse.specs.declared.parser.state.Infix.TheVariants.{Before, Guarded, Otherwise}
use Rattle.strategy_parse.specs.declared.parser.state.StrategyFrame.{StrategyFrame}
use Rattle.strategy_parse.specs.declared.parser.state.StrategyFrame.TheVariants.{Operator as Operated, Rec, Child, Scope, Application, If, Then, Else, Where, List as Strategies, Tail as SquareTail}
use Rattle.strategy_parse.specs.declared.parser.state.PatternFrame.{PatternFrame}
use Rattle.strategy_parse.specs.declared.parser.state.PatternFrame.TheVariants.{Match, Build, Applied, Matched, Left as ClosureLeft, Right as ClosureRight, List as Patterns, Tail as PatternTail}
use Rattle.strategy_parse.specs.declared.parser.state.StrategyGroup.{StrategyGroup}
use Rattle.strategy_parse.specs.declared.parser.state.PatternGroup.{PatternGroup}
use Rattle.strategy_parse.specs.declared.parser.state.PatternGroup.TheVariants.{Application as PApplication, List as PList, Tuple as PTuple, Annotations, Terms, Prim}
use Rattle.strategy_parse.specs.Core.{operated, ordered, rewrite, rewrite_where}
use Rattle.strategy_parse.specs.inside.Parser.{order_of, Next, goes, closing, grouped, after_element, in_frame, after_choice, after_seq, after_arrow, after, closing_sign, close_patterns, after_one, pattern_in_frame, after_pattern, after_base, step}
use Rattle.strategy_parse.proofs.Runs.{Accepts, resume, go_on}
use Rattle.strategy_parse.proofs.CompletePatterns.{base_in, named_in, list_in, rest_in}
use Rattle.strategy_parse.proofs.CompleteStrategies.{arrow_in, used_in, choice_in, closes_first, closes_more}
use Rattle.strategy_parse.proofs.FitLemmas.{Position, sequences, choices, others, patterns, below_group, below, Fits, stands}

-- some tokens are accepted, where f says where the first one leads to
abbrev pub Ends : (Token → Next) → Type 0
Ends f = (c : List Token) × (r : Strategy) × Accepts f c r

-- what one accepts the other accepts
lifted : (f g : Token → Next) → ((y : List Token) (r : Strategy) → Accepts f y r → Accepts g y r) → Ends f → Ends g
lifted f g h e = (e.0, e.1, h e.0 e.1 e.2)

by_token : (t : Token) (f : Token → Next) (q : ParserState) (S : List ParserFrame) → f t ≡ goes q S
    → Ends (step q S) → Ends f
by_token t f q S e more = (t ∷ more.0, more.1, ap (go_on (λ p R. resume (step p R) more.0)) e ∙ more.2)

-- what is to be shown of the open forms below
abbrev Finish : Position → List ParserFrame → Type 0
Finish sequences S = (s : Strategy) → Ends (after_arrow s S)
Finish choices S = (s : Strategy) → Ends (after_choice s S)
Finish others S = (b s : Strategy) → Ends (after_choice s (Operand Otherwise b ∷ S))
Finish patterns S = (p : Pattern) → Ends (after_pattern p S)

-- ---- after a strategy

read_ends : (S : List ParserFrame) → Finish sequences S → (s : Strategy) → Ends (after s S)
read_ends S E s = lifted (after_arrow s S) (after s S) (λ y r k. arrow_in s S y r k) (E s)

seq_ends : (S : List ParserFrame) (s : Strategy) → Ends (after_choice s S) → Ends (after_seq s S)
seq_ends S s e = lifted (after_choice s S) (after_seq s S) (λ y r k. choice_in s S y r k) e

base_ends : (S : List ParserFrame) (p : Pattern) → Ends (after_pattern p S) → Ends (after_base p S)
base_ends S p e = lifted (after_pattern p S) (after_base p S) (λ y r k. base_in p S y r k) e

element_ends : (g : StrategyGroup) (done : List Strategy) (S : List ParserFrame) → Finish sequences S
    → Ends (after_element g done S)
element_ends g done S E =
    let e : Ends (after (grouped g done) S) = read_ends S E (grouped g done) in
    (ASign (closing g) ∷ e.0, e.1, closes_more g done S e.0 e.1 e.2)

then_ends : (a : Strategy) (S : List ParserFrame) → Finish sequences S → (s : Strategy) → Ends (in_frame s (Then a) S)
then_ends a S E s =
    by_token (Reserved KEnd) (in_frame s (Then a) S) (Read (syntax.guard (syntax.test a) s syntax.id)) S refl
    (read_ends S E (syntax.guard (syntax.test a) s syntax.id))

frame_ends : (F : StrategyFrame) (S : List ParserFrame) → Finish sequences S → (s : Strategy) → Ends (in_frame s F S)
frame_ends (Operated o) S E s =
    by_token (ASign CloseRound) (in_frame s (Operated o) S) (Read (operated o s)) S refl (read_ends S E (operated o s))
frame_ends (Rec x) S E s =
    by_token (ASign CloseRound) (in_frame s (Rec x) S) (Read (syntax.rec x s)) S refl (read_ends S E (syntax.rec x s))
frame_ends (Child i) S E s = by_token (ASign CloseRound) (in_frame s (Child i) S) (Read (syntax.child i s)) S refl
    (read_ends S E (syntax.child i s))
frame_ends (Scope xs) S E s = by_token (ASign CloseCurly) (in_frame s (Scope xs) S) (Read (syntax.scope xs s)) S refl
    (read_ends S E (syntax.scope xs s))
frame_ends Application S E s =
    by_token (ASign Greater) (in_frame s Application S) ToPattern (ForPattern (Applied s) ∷ S) refl
    (by_token Wildcard (step ToPattern (ForPattern (Applied s) ∷ S)) (Base wildcard) (ForPattern (Applied s) ∷ S) refl
    (base_ends (ForPattern (Applied s) ∷ S) wildcard (read_ends S E (ordered (order_of S) (syntax.builds wildcard) s))))
frame_ends If S E s =
    by_token (Reserved KThen) (in_frame s If S) ToStrategy (ForStrategy (Then s) ∷ S) refl
    (by_token (Reserved KId) (step ToStrategy (ForStrategy (Then s) ∷ S)) (Read syntax.id)
    (ForStrategy (Then s) ∷ S) refl
    (read_ends (ForStrategy (Then s) ∷ S) (λ r. seq_ends (ForStrategy (Then s) ∷ S) r (then_ends s S E r)) syntax.id))
frame_ends (Then a) S E s = then_ends a S E s
frame_ends (Else a b) S E s =
    by_token (Reserved KEnd) (in_frame s (Else a b) S) (Read (syntax.guard (syntax.test a) b s)) S refl
    (read_ends S E (syntax.guard (syntax.test a) b s))
frame_ends (Where p q) S E s =
    let made = syntax.scope (first_ones same_name [] (variables p)) (rewrite_where (order_of S) p q s) in
    by_token (ASign Backslash) (in_frame s (Where p q) S) (Read made) S refl (read_ends S E made)
frame_ends (Strategies g done) S E s = element_ends g (done ++ s ∷ []) S E
frame_ends (SquareTail done) S E s =
    let made = syntax.tail_congruence (strategies_of done) s in
    by_token (ASign CloseSquare) (in_frame s (SquareTail done) S) (Read made) S refl (read_ends S E made)

-- ---- after a pattern

closed_ends : (g : PatternGroup) (ps : List Pattern) (S : List ParserFrame) → Finish (below_group g) S
    → Ends (step (close_patterns g ps) S)
closed_ends (PApplication f) ps S E = base_ends S _ (E _)
closed_ends PList ps S E = base_ends S _ (E _)
closed_ends PTuple ps S E = base_ends S _ (E _)
closed_ends (Annotations p) ps S E = E (annotated p (patterns_of ps))
closed_ends (Terms f ss) ps S E = read_ends S E _
closed_ends (Prim f) ps S E = read_ends S E _

group_ends : (g : PatternGroup) (ps : List Pattern) (S : List ParserFrame) → Finish (below_group g) S
    → Ends (after_one g ps S)
group_ends g ps S E =
    let e = closed_ends g (ps ++ []) S E in
    (ASign (closing_sign g) ∷ e.0, e.1, rest_in no_patterns g ps S (ASign (closing_sign g) ∷ e.0) e.0 e.1 refl e.2)

right_ends : (l p : Pattern) (S : List ParserFrame) → Finish sequences S → Ends (pattern_in_frame p (ClosureRight l) S)
right_ends l p S E =
    let made = syntax.scope (first_ones same_name [] (variables l)) (rewrite l p) in
    by_token (ASign Backslash) (pattern_in_frame p (ClosureRight l) S) (Read made) S refl (read_ends S E made)

pattern_frame_ends : (F : PatternFrame) (S : List ParserFrame) → Finish (below F) S → (p : Pattern)
    → Ends (pattern_in_frame p F S)
pattern_frame_ends Match S E p = read_ends S E (syntax.matches p)
pattern_frame_ends Build S E p = read_ends S E (syntax.builds p)
pattern_frame_ends (Applied s) S E p = read_ends S E (ordered (order_of S) (syntax.builds p) s)
pattern_frame_ends (Matched s) S E p = read_ends S E (syntax.seq s (syntax.matches p))
pattern_frame_ends ClosureLeft S E p =
    by_token (ASign RightArrow) (pattern_in_frame p ClosureLeft S) ToPattern (ForPattern (ClosureRight p) ∷ S) refl
    (by_token Wildcard (step ToPattern (ForPattern (ClosureRight p) ∷ S)) (Base wildcard)
    (ForPattern (ClosureRight p) ∷ S) refl
    (base_ends (ForPattern (ClosureRight p) ∷ S) wildcard (right_ends p wildcard S E)))
pattern_frame_ends (ClosureRight l) S E p = right_ends l p S E
pattern_frame_ends (Patterns g ps) S E p = group_ends g (ps ++ p ∷ []) S E
pattern_frame_ends (PatternTail ps) S E p =
    let made = with_tail (patterns_of ps) p in
    by_token (ASign CloseSquare) (pattern_in_frame p (PatternTail ps) S) (Base made) S refl (base_ends S made (E made))

-- ---- on all open forms

pub finish : (S : List ParserFrame) (k : Position) → Fits k S → Finish k S
finish [] sequences h = λ s. ([], s, refl)
finish [] choices h = λ s. ([], s, refl)
finish [] others h = absurd h
finish [] patterns h = λ p. ([], syntax.matches p, refl)
finish (InText ∷ S) sequences h = absurd h
finish (InText ∷ S) choices h = absurd h
finish (InText ∷ S) others h = absurd h
finish (InText ∷ S) patterns h = absurd h
finish (Operand Before r ∷ S) sequences h = λ s. finish S sequences h (syntax.seq r s)
finish (Operand Before r ∷ S) choices h = absurd h
finish (Operand Before r ∷ S) others h = absurd h
finish (Operand Before r ∷ S) patterns h = absurd h
finish (Operand Guarded a ∷ S) sequences h = λ s.
    let R : List ParserFrame = Operand Otherwise s ∷ (Operand Guarded a ∷ S) in
    by_token (ASign Plus) (after_arrow s (Operand Guarded a ∷ S)) ToStrategy R refl
    (by_token (Reserved KId) (step ToStrategy R) (Read syntax.id) R refl
    (lifted (after_arrow syntax.id R) (after syntax.id R) (λ y r k. arrow_in syntax.id R y r k)
    (seq_ends R syntax.id (finish S choices h (syntax.guard a s syntax.id)))))
finish (Operand Guarded a ∷ S) choices h = absurd h
finish (Operand Guarded a ∷ S) others h = λ b s. finish S choices h (syntax.guard a b s)
finish (Operand Guarded a ∷ S) patterns h = absurd h
finish (Operand Otherwise b ∷ S) sequences h = λ s. seq_ends (Operand Otherwise b ∷ S) s (finish S others h b s)
finish (Operand Otherwise b ∷ S) choices h = λ s. finish S others h b s
finish (Operand Otherwise b ∷ S) others h = absurd h
finish (Operand Otherwise b ∷ S) patterns h = absurd h
finish (ForStrategy F ∷ S) sequences h = λ s. seq_ends (ForStrategy F ∷ S) s (frame_ends F S (finish S sequences h) s)
finish (ForStrategy F ∷ S) choices h = λ s. frame_ends F S (finish S sequences h) s
finish (ForStrategy F ∷ S) others h = absurd h
finish (ForStrategy F ∷ S) patterns h = absurd h
finish (At x ∷ S) sequences h = absurd h
finish (At x ∷ S) choices h = absurd h
finish (At x ∷ S) others h = absurd h
finish (At x ∷ S) patterns h = λ p. finish S patterns h (syntax.at x p)
finish (ForPattern F ∷ S) sequences h = absurd h
finish (ForPattern F ∷ S) choices h = absurd h
finish (ForPattern F ∷ S) others h = absurd h
finish (ForPattern F ∷ S) patterns h = λ p. pattern_frame_ends F S (finish S (below F) h) p

-- ---- in each state

pub some_name : Symbol
some_name = record { text = codes "x"; is_quoted = false }

module _ (S : List ParserFrame) where
  module _ (h : Fits sequences S) where
    read_at : (s : Strategy) → Ends (after s S)
    read_at s = read_ends S (finish S sequences h) s

    opened_ends : (F : StrategyFrame) → Ends (step ToStrategy (ForStrategy F ∷ S))
    opened_ends F =
        by_token (Reserved KId) (step ToStrategy (ForStrategy F ∷ S)) (Read syntax.id) (ForStrategy F ∷ S) refl
        (read_ends (ForStrategy F ∷ S) (finish (ForStrategy F ∷ S) sequences h) syntax.id)

    opening_ends : (F : StrategyFrame) → Ends (step (Opening F) S)
    opening_ends F = by_token (ASign OpenRound) (step (Opening F) S) ToStrategy (ForStrategy F ∷ S) refl (opened_ends F)

    prim_ends : (f : Symbol) → Ends (step (PrimNamed f) S)
    prim_ends f = by_token (ASign CloseRound) (step (PrimNamed f) S) (Read (syntax.prim f no_patterns)) S refl
        (read_at (syntax.prim f no_patterns))

    prim_open_ends : Ends (step PrimOpen S)
    prim_open_ends = by_token (Text some_name) (step PrimOpen S) (PrimNamed some_name) S refl (prim_ends some_name)

    scope_ends : (xs : List Symbol) → Ends (step (ScopeNamed xs) S)
    scope_ends xs = by_token (ASign Colon) (step (ScopeNamed xs) S) ToStrategy (ForStrategy (Scope xs) ∷ S) refl
        (opened_ends (Scope xs))

    first_ends : (g : StrategyGroup) → Ends (step (FirstStrategy g) S)
    first_ends g =
        let e : Ends (after (grouped g []) S) = read_at (grouped g []) in
        (ASign (closing g) ∷ e.0, e.1, closes_first g S e.0 e.1 e.2)

  patterns_ends : (g : PatternGroup) → Fits (below_group g) S → Ends (step (FirstPattern g) S)
  patterns_ends g h =
      let e = closed_ends g [] S (finish S (below_group g) h) in
      (ASign (closing_sign g) ∷ e.0, e.1, list_in no_patterns g S (ASign (closing_sign g) ∷ e.0) e.0 e.1 refl e.2)

  base_at : Fits patterns S → (p : Pattern) → Ends (step (Base p) S)
  base_at h p = base_ends S p (finish S patterns h p)

  pub state_ends : (q : ParserState) → Fits (stands q) S → Ends (step q S)
  state_ends ToStrategy h = by_token (Reserved KId) (step ToStrategy S) (Read syntax.id) S refl (read_at h syntax.id)
  state_ends (FirstStrategy g) h = first_ends h g
  state_ends (Read s) h = read_at h s
  state_ends (Used f) h =
      lifted (after (syntax.uses f syntax.no_strategies no_patterns) S) (step (Used f) S) (λ y r k. used_in f S y r k)
      (read_at h (syntax.uses f syntax.no_strategies no_patterns))
  state_ends (Opening F) h = opening_ends h F
  state_ends AfterRec h =
      by_token (Ident some_name) (step AfterRec S) (Opening (Rec some_name)) S refl (opening_ends h (Rec some_name))
  state_ends AfterPrim h = by_token (ASign OpenRound) (step AfterPrim S) PrimOpen S refl (prim_open_ends h)
  state_ends PrimOpen h = prim_open_ends h
  state_ends (PrimNamed f) h = prim_ends h f
  state_ends ScopeOpen h =
      by_token (ASign Colon) (step ScopeOpen S) ToStrategy (ForStrategy (Scope []) ∷ S) refl (opened_ends h (Scope []))
  state_ends (ScopeComma xs) h = by_token (Ident some_name) (step (ScopeComma xs) S)
      (ScopeNamed (xs ++ some_name ∷ [])) S refl (scope_ends h (xs ++ some_name ∷ []))
  state_ends (ScopeNamed xs) h = scope_ends h xs
  state_ends ToPattern h = by_token Wildcard (step ToPattern S) (Base wildcard) S refl (base_at h wildcard)
  state_ends (FirstPattern g) h = patterns_ends g h
  state_ends (Named f) h =
      lifted (after_base (variable f) S) (step (Named f) S) (λ y r k. named_in f S y r k) (base_at h (variable f))
  state_ends (Base p) h = base_at h p
  state_ends (Whole p) h = finish S patterns h p
