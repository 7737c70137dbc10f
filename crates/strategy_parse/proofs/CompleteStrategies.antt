-- What the grammar reads as a strategy, the machine reads.
use Rattle.std.proofs.Common.{◌≡◌, ℕ, zero, suc, pos, false, refl, sym, ap, ◌∙◌, subst, List, [], ◌∷◌, ◌++◌, Some, None, ◌≤◌, arith, append_assoc, append-nil}
use Rattle.std.specs.Prelude.{if◌then◌else◌}
use Rattle.std.specs.declared.option.Option.{Option}
use Rattle.term_core.specs.Tree.{Symbol, list}
use Rattle.strategy_syntax.specs.Syntax as syntax
use Rattle.strategy_syntax.specs.Syntax.{no_patterns, and_pattern, pattern_list, patterns_of, Strategy, strategy_list, strategies_of}
use Rattle.strategy_tokens.specs.declared.token.Token.{Token}
use Rattle.strategy_tokens.specs.declared.token.Token.TheVariants.{Reserved, Integer, Sign as ASign, Bad}
use Rattle.strategy_tokens.specs.declared.token.Sign.TheVariants.{OpenRound, CloseRound, Comma, Semicolon, Colon, Bar, FatArrow, Less, LeftChoice}
use Rattle.strategy_parse.specs.declared.parser.state.ParserState.TheVariants.{Strategy as ToStrategy, FirstStrategy, Read, Used, PrimNamed, ScopeOpen, ScopeNamed, Pattern as ToPattern}
use Rattle.strategy_parse.specs.declared.parser.state.ParserFrame.{ParserFrame}
use Rattle.strategy_parse.specs.declared.parser.state.ParserFrame.TheVariants.{InText, Operand, At, Strategy as ForStrategy, Pattern as ForPattern}
use Rattle.strategy_parse.specs.declared.parser.state.Order.TheVariants.{Run, Written}
use Rattle.strategy_parse.specs.declared.parser.state.Infix.TheVariants.{Before, Guarded, Otherwise}
use Rattle.strategy_parse.specs.declared.parser.state.StrategyFrame.TheVariants.{Operator as Operated, Rec, Child, Scope, Application, If, Then, Else, Where, List as Strategies, Tail as SquareTail}
use Rattle.strategy_parse.specs.declared.parser.state.PatternFrame.TheVariants.{Match, Build, Applied, Matched, Left as ClosureLeft, Right as ClosureRight, List as Patterns}
use Rattle.strategy_parse.specs.declared.parser.state.Operator.{Operator}
use Rattle.strategy_parse.specs.declared.parser.state.Operator.TheVariants.{All, One, Some as SomeChild, Not, Where as WhereOf, Test}
use Rattle.strategy_parse.specs.declared.parser.state.StrategyGroup.{StrategyGroup}
use Rattle.strategy_parse.specs.declared.parser.state.StrategyGroup.TheVariants.{Round, Square, Arguments}
use Rattle.strategy_parse.specs.declared.parser.state.PatternGroup.TheVariants.{Terms, Prim}
use Rattle.strategy_tokens.specs.Marks.{is_mark}
use Rattle.strategy_parse.specs.inside.Parser.{order_of, Next, goes, stuck, begin, after, after_arrow, after_seq, after_choice, after_element, closing, grouped, first_strategy, first_pattern, empty_bar, step}
use Rattle.strategy_parse.proofs.Runs.{resume, at_end, go_on, Accepts, Refuses, open_round, fat_arrow, semicolon, left_choice_sign, less, choice-stuck, arrow-stuck, after-stuck, passes}
use Rattle.strategy_parse.specs.Grammar.{ReadsMorePatterns, ReadsArrows, ReadsMoreNames, ReadsNames, word_of, ReadsChoice, ReadsSeq, ReadsArrow, ReadsPrefix, ReadsChoices, ReadsSomeChoices, ReadsMoreChoices}
use Rattle.strategy_tokens.proofs.MarkLemmas.{mark_self}
use Rattle.strategy_parse.specs.Written.{Choice, sequence, left_choice, guarded_choice, Seq, last, before, Arrow, arrow, Prefix, question, exclamation, application, identity, failure, operator, if_then, if_then_else, recursion, primitive, local, closure, closure_where, round, square, square_with_tail, name, call, call_with_terms, child, Choices, no_choices, and_choice}
use Rattle.strategy_parse.specs.Core.{then_matched, in_brackets, core, core_seq, core_arrow, core_prefix, core_all}
use Rattle.strategy_parse.proofs.CompletePatterns.{pattern_in, list_in, rest_in, patterns_of-list}

pub strategies_of-list : (ss : syntax.Strategies) → strategies_of (strategy_list ss) ≡ ss
strategies_of-list syntax.no_strategies = refl
strategies_of-list (syntax.and_strategy s ss) = ap (syntax.and_strategy s) (strategies_of-list ss)

-- ---- the machine where a form could continue and doesn't

pub arrow_in : (s : Strategy) (S : List ParserFrame) (y : List Token) (r : Strategy) → Accepts (after_arrow s S) y r
    → Accepts (after s S) y r
arrow_in s S y r k =
    passes FatArrow (goes ToPattern (ForPattern (Matched s) ∷ S))
    (λ t. if (is_mark Semicolon t) then goes ToStrategy (Operand Before s ∷ S) else after_arrow s S t) y r
    (λ K. arrow-stuck (ASign FatArrow) fat_arrow refl refl S s K)
    (passes Semicolon (goes ToStrategy (Operand Before s ∷ S)) (after_arrow s S) y r
    (λ K. arrow-stuck (ASign Semicolon) semicolon refl refl S s K) k)

pub used_in : (f : Symbol) (S : List ParserFrame) (y : List Token) (r : Strategy)
    → Accepts (after (syntax.uses f syntax.no_strategies syntax.no_patterns) S) y r → Accepts (step (Used f) S) y r
used_in f S y r k =
    passes OpenRound (goes (FirstStrategy (Arguments f)) S)
    (after (syntax.uses f syntax.no_strategies syntax.no_patterns) S) y r
    (λ K. after-stuck (ASign OpenRound) open_round refl refl refl refl S
    (syntax.uses f syntax.no_strategies syntax.no_patterns) K) k

-- no choice ends before a `;` or a `+`
stuck-accepts : (f : Token → Next) (x : List Token) (r : Strategy) → ((t : Token) → f t ≡ stuck) → Accepts f x r → ⊥
stuck-accepts f [] r h k = let no : ◌≡◌ {A = Option Strategy} None (Some r) = sym (ap at_end (h Bad)) ∙ k in cc
stuck-accepts f (t ∷ ts) r h k = let no : ◌≡◌ {A = Option Strategy} None (Some r) =
    sym (ap (go_on (λ q S. resume (step q S) ts)) (h t)) ∙ k in cc

-- if a whole choice may end before x, no sequence is open
abbrev pub Bare : List ParserFrame → Type 0
Bare S = (s : Strategy) (t : Token) → after_arrow s S t ≡ after_seq s S t

bare : (S : List ParserFrame) (s : Strategy) (x : List Token) (r : Strategy) → Accepts (after_choice s S) x r → Bare S
bare [] s x r k a t = refl
bare (InText ∷ S) s x r k a t = refl
bare (Operand Before q ∷ S) s x r k a t =
    absurd (stuck-accepts (after_choice s (Operand Before q ∷ S)) x r (λ u. refl) k)
bare (Operand Guarded q ∷ S) s x r k a t =
    absurd (stuck-accepts (after_choice s (Operand Guarded q ∷ S)) x r (λ u. refl) k)
bare (Operand Otherwise b ∷ S) s x r k a t = refl
bare (At f ∷ S) s x r k a t = refl
bare (ForStrategy F ∷ S) s x r k a t = refl
bare (ForPattern F ∷ S) s x r k a t = refl

pub choice_in : (s : Strategy) (S : List ParserFrame) (y : List Token) (r : Strategy) → Accepts (after_choice s S) y r
    → Accepts (after_seq s S) y r
choice_in s S y r k =
    passes LeftChoice (goes ToStrategy (Operand Otherwise syntax.id ∷ (Operand Guarded s ∷ S)))
    (λ t. if (is_mark Less t) then goes ToStrategy (Operand Guarded s ∷ S) else after_choice s S t) y r
    (λ K. choice-stuck (ASign LeftChoice) left_choice_sign S s K)
    (passes Less (goes ToStrategy (Operand Guarded s ∷ S)) (after_choice s S) y r
    (λ K. choice-stuck (ASign Less) less S s K) k)

pub same_accepts : (f g : Token → Next) (x : List Token) (r : Strategy) → ((t : Token) → f t ≡ g t) → Accepts g x r
    → Accepts f x r
same_accepts f g [] r h k = ap at_end (h Bad) ∙ k
same_accepts f g (t ∷ ts) r h k = ap (go_on (λ q S. resume (step q S) ts)) (h t) ∙ k

-- a list of strategies begins with no closing sign and no `|`
closing-begins : (g : StrategyGroup) (S : List ParserFrame) → Refuses (begin S (ASign (closing g)))
closing-begins Round S K = refl
closing-begins Square S K = refl
closing-begins (Arguments f) S K = refl

first_in : (g : StrategyGroup) (S : List ParserFrame) (x : List Token) (r : Strategy)
    → Accepts (begin (ForStrategy (Strategies g []) ∷ S)) x r → Accepts (first_strategy g S) x r
first_in g S x r k =
    passes (closing g) (goes (Read (grouped g [])) S)
    (λ t. if (is_mark Bar t) then empty_bar g S else begin (ForStrategy (Strategies g []) ∷ S) t) x r
    (bar-first g)
    (passes Bar (empty_bar g S) (begin (ForStrategy (Strategies g []) ∷ S)) x r (λ K. refl) k) where
      bar-first : (g : StrategyGroup) → Refuses (if (is_mark Bar (ASign (closing g))) then empty_bar g S else begin
          (ForStrategy (Strategies g []) ∷ S) (ASign (closing g)))
      bar-first Round K = refl
      bar-first Square K = refl
      bar-first (Arguments f) K = refl

comma-closing : (g : StrategyGroup) → is_mark Comma (ASign (closing g)) ≡ false
comma-closing Round = refl
comma-closing Square = refl
comma-closing (Arguments f) = refl

bar-closing : (g : StrategyGroup) → is_mark Bar (ASign (closing g)) ≡ false
bar-closing Round = refl
bar-closing Square = refl
bar-closing (Arguments f) = refl

pub closes_first : (g : StrategyGroup) (S : List ParserFrame) (y : List Token) (r : Strategy)
    → Accepts (after (grouped g []) S) y r → Accepts (first_strategy g S) (ASign (closing g) ∷ y) r
closes_first g S y r k = rw (mark_self (closing g)) k

pub closes_more : (g : StrategyGroup) (done : List Strategy) (S : List ParserFrame) (y : List Token) (r : Strategy)
    → Accepts (after (grouped g done) S) y r → Accepts (after_element g done S) (ASign (closing g) ∷ y) r
closes_more g done S y r k = rw (comma-closing g, bar-closing g, mark_self (closing g)) k

-- ---- names

names_more : (fs done : List Symbol) (S : List ParserFrame) (x y : List Token) (r : Strategy)
    → ReadsMoreNames fs Colon x y
    → Accepts (begin (ForStrategy (Scope (done ++ fs)) ∷ S)) y r → Accepts (step (ScopeNamed done) S) x r
names_more [] done S x y r h k = rw h (subst (λ l. Accepts (begin (ForStrategy (Scope l) ∷ S)) y r) (append-nil done) k)
names_more (f ∷ fs) done S x y r h k =
    rw h.1 (rw h.2.1 (names_more fs (done ++ f ∷ []) S h.2.0 y r h.2.2
    (subst (λ l. Accepts (begin (ForStrategy (Scope l) ∷ S)) y r) (sym (append_assoc done (f ∷ []) fs)) k)))

names_in : (fs : List Symbol) (S : List ParserFrame) (x y : List Token) (r : Strategy) → ReadsNames fs Colon x y
    → Accepts (begin (ForStrategy (Scope fs) ∷ S)) y r → Accepts (step ScopeOpen S) x r
names_in [] S x y r h k = rw h k
names_in (f ∷ fs) S x y r h k = rw h.1 (names_more fs (f ∷ []) S h.0 y r h.2 k)

-- the patterns after a prefix
arrows_in : (ps : syntax.Patterns) (s : Strategy) (S : List ParserFrame) (x y : List Token) (r : Strategy)
    → ReadsArrows ps x y → Accepts (after (then_matched s ps) S) y r → Accepts (after s S) x r
arrows_in no_patterns s S x y r h k = subst (λ l. Accepts (after s S) l r) h k
arrows_in (and_pattern p ps) s S x y r h k =
    rw h.1 (pattern_in p (ForPattern (Matched s) ∷ S) h.0 h.2.0 r h.2.1
    (arrows_in ps (syntax.seq s (syntax.matches p)) S h.2.0 y r h.2.2 k))

operator-begins : (o : Operator) (S : List ParserFrame) (x : List Token) (r : Strategy)
    → Accepts (begin (ForStrategy (Operated o) ∷ S)) x r
    → Accepts (begin S) (Reserved (word_of o) ∷ (ASign OpenRound ∷ x)) r
operator-begins All S x r k = k
operator-begins One S x r k = k
operator-begins SomeChild S x r k = k
operator-begins Not S x r k = k
operator-begins WhereOf S x r k = k
operator-begins Test S x r k = k

child_reads : (i : ℕ) (S : List ParserFrame) (x : List Token) (r : Strategy)
    → 1 ≤ i → Accepts (begin (ForStrategy (Child i) ∷ S)) x r
    → Accepts (begin S) (Integer (pos i) ∷ (ASign OpenRound ∷ x)) r
child_reads zero S x r h k = absurd (omega arith)
child_reads (suc i) S x r h k = k

prim_reads : (ps : syntax.Patterns) (n : Symbol) (S : List ParserFrame) (x y : List Token) (r : Strategy)
    → ReadsMorePatterns ps CloseRound x y
    → Accepts (after (syntax.prim n ps) S) y r → Accepts (step (PrimNamed n) S) x r
prim_reads no_patterns n S x y r h k = rw h k
prim_reads (and_pattern p ps) n S x y r h k =
    rw h.1 (pattern_in p (ForPattern (Patterns (Prim n) []) ∷ S) h.0 h.2.0 r h.2.1
    (rest_in ps (Prim n) (p ∷ []) S h.2.0 y r h.2.2
    (subst (λ l. Accepts (after (syntax.prim n (and_pattern p l)) S) y r) (sym (patterns_of-list ps)) k)))

-- ---- the productions

mutual
  choice_reads : (a : Choice) (S : List ParserFrame) (x y : List Token) (r : Strategy) → ReadsChoice a x y
      → Accepts (after_choice (core (order_of S) a) S) y r → Accepts (begin S) x r
  choice_reads (sequence a) S x y r h k =
      seq_reads a S x y r h
      (same_accepts (after_arrow (core_seq (order_of S) a) S) (after_seq (core_seq (order_of S) a) S) y r
      (bare S (core_seq (order_of S) a) y r k (core_seq (order_of S) a)) (choice_in (core_seq (order_of S) a) S y r k))
  choice_reads (left_choice a b) S x y r h k =
      seq_reads a S x h.0 r h.1
      (same_accepts (after_arrow (core_seq (order_of S) a) S) (after_seq (core_seq (order_of S) a) S) h.0 r
      (bare S (syntax.guard (core_seq (order_of S) a) syntax.id (core (order_of S) b)) y r k (core_seq (order_of S) a))
      (rw h.2.1 (choice_reads b (Operand Otherwise syntax.id ∷ (Operand Guarded (core_seq (order_of S) a) ∷ S)) h.2.0 y
      r h.2.2 k)))
  choice_reads (guarded_choice a b c) S x y r h k =
      seq_reads a S x h.0 r h.1
      (same_accepts (after_arrow (core_seq (order_of S) a) S) (after_seq (core_seq (order_of S) a) S) h.0 r
      (bare S (syntax.guard (core_seq (order_of S) a) (core_seq (order_of S) b) (core (order_of S) c)) y r k
      (core_seq (order_of S) a))
      (rw h.2.1 (seq_reads b (Operand Guarded (core_seq (order_of S) a) ∷ S) h.2.0 h.2.2.0 r h.2.2.1
      (rw h.2.2.2.1 (choice_reads c (Operand Otherwise (core_seq (order_of S) b)
      ∷ (Operand Guarded (core_seq (order_of S) a) ∷ S)) h.2.2.2.0 y r h.2.2.2.2 k)))))

  seq_reads : (a : Seq) (S : List ParserFrame) (x y : List Token) (r : Strategy) → ReadsSeq a x y
      → Accepts (after_arrow (core_seq (order_of S) a) S) y r → Accepts (begin S) x r
  seq_reads (last a) S x y r h k = arrow_reads a S x y r h (arrow_in (core_arrow (order_of S) a) S y r k)
  seq_reads (before a b) S x y r h k =
      arrow_reads a S x h.0 r h.1
      (rw h.2.1 (seq_reads b (Operand Before (core_arrow (order_of S) a) ∷ S) h.2.0 y r h.2.2 k))

  arrow_reads : (a : Arrow) (S : List ParserFrame) (x y : List Token) (r : Strategy) → ReadsArrow a x y
      → Accepts (after (core_arrow (order_of S) a) S) y r → Accepts (begin S) x r
  arrow_reads (arrow a ps) S x y r h k =
      prefix_reads a S x h.0 r h.1 (arrows_in ps (core_prefix (order_of S) a) S h.0 y r h.2 k)

  prefix_reads : (a : Prefix) (S : List ParserFrame) (x y : List Token) (r : Strategy) → ReadsPrefix a x y
      → Accepts (after (core_prefix (order_of S) a) S) y r → Accepts (begin S) x r
  prefix_reads (question p) S x y r h k = rw h.1 (pattern_in p (ForPattern Match ∷ S) h.0 y r h.2 k)
  prefix_reads (exclamation p) S x y r h k = rw h.1 (pattern_in p (ForPattern Build ∷ S) h.0 y r h.2 k)
  prefix_reads (application a p) S x y r h k =
      rw h.1 (choice_reads a (ForStrategy Application ∷ S) h.0 h.2.0 r h.2.1
      (rw h.2.2.1 (pattern_in p (ForPattern (Applied (core (order_of S) a)) ∷ S) h.2.2.0 y r h.2.2.2 k)))
  prefix_reads identity S x y r h k = rw h k
  prefix_reads failure S x y r h k = rw h k
  prefix_reads (operator o a) S x y r h k =
      rw h.1 (rw h.2.1 (operator-begins o S h.2.0 r
      (choice_reads a (ForStrategy (Operated o) ∷ S) h.2.0 h.2.2.0 r h.2.2.1 (rw h.2.2.2 k))))
  prefix_reads (if_then a b) S x y r h k =
      rw h.1 (choice_reads a (ForStrategy If ∷ S) h.0 h.2.0 r h.2.1
      (rw h.2.2.1
      (choice_reads b (ForStrategy (Then (core (order_of S) a)) ∷ S) h.2.2.0 h.2.2.2.0 r h.2.2.2.1 (rw h.2.2.2.2 k))))
  prefix_reads (if_then_else a b c) S x y r h k =
      rw h.1 (choice_reads a (ForStrategy If ∷ S) h.0 h.2.0 r h.2.1
      (rw h.2.2.1 (choice_reads b (ForStrategy (Then (core (order_of S) a)) ∷ S) h.2.2.0 h.2.2.2.0 r h.2.2.2.1
      (rw h.2.2.2.2.1 (choice_reads c (ForStrategy (Else (core (order_of S) a) (core (order_of S) b)) ∷ S) h.2.2.2.2.0
      h.2.2.2.2.2.0 r h.2.2.2.2.2.1 (rw h.2.2.2.2.2.2 k))))))
  prefix_reads (recursion f a) S x y r h k =
      rw h.1
      (rw h.2.1 (rw h.2.2.1 (choice_reads a (ForStrategy (Rec f) ∷ S) h.2.2.0 h.2.2.2.0 r h.2.2.2.1 (rw h.2.2.2.2 k))))
  prefix_reads (primitive n ps) S x y r h k = rw h.1 (rw h.2.1 (rw h.2.2.1 (prim_reads ps n S h.2.2.0 y r h.2.2.2 k)))
  prefix_reads (local fs a) S x y r h k =
      rw h.1 (names_in fs S h.0 h.2.0 r h.2.1
      (choice_reads a (ForStrategy (Scope fs) ∷ S) h.2.0 h.2.2.0 r h.2.2.1 (rw h.2.2.2 k)))
  prefix_reads (closure p q) S x y r h k =
      rw h.1 (pattern_in p (ForPattern ClosureLeft ∷ S) h.0 h.2.0 r h.2.1
      (rw h.2.2.1 (pattern_in q (ForPattern (ClosureRight p) ∷ S) h.2.2.0 h.2.2.2.0 r h.2.2.2.1 (rw h.2.2.2.2 k))))
  prefix_reads (closure_where p q a) S x y r h k =
      rw h.1 (pattern_in p (ForPattern ClosureLeft ∷ S) h.0 h.2.0 r h.2.1
      (rw h.2.2.1 (pattern_in q (ForPattern (ClosureRight p) ∷ S) h.2.2.0 h.2.2.2.0 r h.2.2.2.1
      (rw h.2.2.2.2.1
      (choice_reads a (ForStrategy (Where p q) ∷ S) h.2.2.2.2.0 h.2.2.2.2.2.0 r h.2.2.2.2.2.1 (rw h.2.2.2.2.2.2 k))))))
  prefix_reads (round cs) S x y r h k =
      rw h.1 (choices_read cs Round S h.0 y r h.2
      (subst (λ l. Accepts (after (in_brackets l) S) y r) (sym (strategies_of-list (core_all (order_of S) cs))) k))
  prefix_reads (square cs) S x y r h k =
      rw h.1 (choices_read cs Square S h.0 y r h.2 (subst (λ l. Accepts (after (syntax.congruence list l) S) y r)
      (sym (strategies_of-list (core_all (order_of S) cs))) k))
  prefix_reads (square_with_tail cs a) S x y r h k =
      rw h.1 (some_choices_read cs S h.0 h.2.0 r h.2.1
      (choice_reads a (ForStrategy (SquareTail (strategy_list (core_all (order_of S) cs))) ∷ S) h.2.0 h.2.2.0 r h.2.2.1
      (rw h.2.2.2 (subst (λ l. Accepts (after (syntax.tail_congruence l (core (order_of S) a)) S) y r)
      (sym (strategies_of-list (core_all (order_of S) cs))) k))))
  prefix_reads (name f) S x y r h k = rw h (used_in f S y r k)
  prefix_reads (call f cs) S x y r h k =
      rw h.1 (rw h.2.1
      (choices_read cs (Arguments f) S h.2.0 y r h.2.2 (subst (λ l. Accepts (after (syntax.uses f l no_patterns) S) y r)
      (sym (strategies_of-list (core_all (order_of S) cs))) k)))
  prefix_reads (call_with_terms f cs ps) S x y r h k =
      rw h.1 (rw h.2.1 (arguments_read cs f S h.2.0 h.2.2.0 r h.2.2.1
      (list_in ps (Terms f (strategy_list (core_all (order_of S) cs))) S h.2.2.0 y r h.2.2.2
      (subst (λ l. Accepts (after (syntax.uses f l (patterns_of (pattern_list ps))) S) y r)
      (sym (strategies_of-list (core_all (order_of S) cs)))
      (subst (λ l. Accepts (after (syntax.uses f (core_all (order_of S) cs) l) S) y r)
      (sym (patterns_of-list ps)) k)))))
  prefix_reads (child i a) S x y r h k =
      rw h.1.1 (rw h.1.2.1 (child_reads i S h.1.2.0 r h.0
      (choice_reads a (ForStrategy (Child i) ∷ S) h.1.2.0 h.1.2.2.0 r h.1.2.2.1 (rw h.1.2.2.2 k))))

  choices_read : (cs : Choices) (g : StrategyGroup) (S : List ParserFrame) (x y : List Token) (r : Strategy)
      → ReadsChoices cs (closing g) x y
      → Accepts (after (grouped g (strategy_list (core_all (order_of S) cs))) S) y r → Accepts (first_strategy g S) x r
  choices_read no_choices g S x y r h k = subst (λ l. Accepts (first_strategy g S) l r) (sym h) (closes_first g S y r k)
  choices_read (and_choice a cs) g S x y r h k =
      first_in g S x r (choice_reads a (ForStrategy (Strategies g []) ∷ S) x h.0 r h.1
      (more_choices_read cs g (core (order_of S) a ∷ []) S h.0 y r h.2 k))

  some_choices_read : (cs : Choices) (S : List ParserFrame) (x y : List Token) (r : Strategy)
      → ReadsSomeChoices cs Bar x y
      → Accepts (begin (ForStrategy (SquareTail (strategy_list (core_all (order_of S) cs))) ∷ S)) y r
      → Accepts (first_strategy Square S) x r
  some_choices_read no_choices S x y r h k = absurd h
  some_choices_read (and_choice a cs) S x y r h k =
      first_in Square S x r (choice_reads a (ForStrategy (Strategies Square []) ∷ S) x h.0 r h.1
      (square_bar_reads cs (core (order_of S) a ∷ []) S h.0 y r h.2 k))

  arguments_read : (cs : Choices) (f : Symbol) (S : List ParserFrame) (x y : List Token) (r : Strategy)
      → ReadsChoices cs Bar x y
      → Accepts (first_pattern (Terms f (strategy_list (core_all (order_of S) cs))) S) y r
      → Accepts (first_strategy (Arguments f) S) x r
  arguments_read no_choices f S x y r h k = rw h k
  arguments_read (and_choice a cs) f S x y r h k =
      first_in (Arguments f) S x r (choice_reads a (ForStrategy (Strategies (Arguments f) []) ∷ S) x h.0 r h.1
      (arguments_bar_read cs f (core (order_of S) a ∷ []) S h.0 y r h.2 k))

  more_choices_read : (cs : Choices) (g : StrategyGroup) (done : List Strategy) (S : List ParserFrame)
      (x y : List Token) (r : Strategy) → ReadsMoreChoices cs (closing g) x y
      → Accepts (after (grouped g (done ++ strategy_list (core_all (order_of S) cs))) S) y r
      → Accepts (after_element g done S) x r
  more_choices_read no_choices g done S x y r h k =
      subst (λ l. Accepts (after_element g done S) l r) (sym h)
      (closes_more g done S y r (subst (λ l. Accepts (after (grouped g l) S) y r) (append-nil done) k))
  more_choices_read (and_choice a cs) g done S x y r h k =
      rw h.1 (choice_reads a (ForStrategy (Strategies g done) ∷ S) h.0 h.2.0 r h.2.1
      (more_choices_read cs g (done ++ core (order_of S) a ∷ []) S h.2.0 y r h.2.2
      (subst (λ l. Accepts (after (grouped g l) S) y r)
      (sym (append_assoc done (core (order_of S) a ∷ []) (strategy_list (core_all (order_of S) cs)))) k)))

  square_bar_reads : (cs : Choices) (done : List Strategy) (S : List ParserFrame) (x y : List Token) (r : Strategy)
      → ReadsMoreChoices cs Bar x y
      → Accepts (begin (ForStrategy (SquareTail (done ++ strategy_list (core_all (order_of S) cs))) ∷ S)) y r
      → Accepts (after_element Square done S) x r
  square_bar_reads no_choices done S x y r h k =
      rw h (subst (λ l. Accepts (begin (ForStrategy (SquareTail l) ∷ S)) y r) (append-nil done) k)
  square_bar_reads (and_choice a cs) done S x y r h k =
      rw h.1 (choice_reads a (ForStrategy (Strategies Square done) ∷ S) h.0 h.2.0 r h.2.1
      (square_bar_reads cs (done ++ core (order_of S) a ∷ []) S h.2.0 y r h.2.2
      (subst (λ l. Accepts (begin (ForStrategy (SquareTail l) ∷ S)) y r)
      (sym (append_assoc done (core (order_of S) a ∷ []) (strategy_list (core_all (order_of S) cs)))) k)))

  arguments_bar_read : (cs : Choices) (f : Symbol) (done : List Strategy) (S : List ParserFrame) (x y : List Token)
      (r : Strategy) → ReadsMoreChoices cs Bar x y
      → Accepts (first_pattern (Terms f (done ++ strategy_list (core_all (order_of S) cs))) S) y r
      → Accepts (after_element (Arguments f) done S) x r
  arguments_bar_read no_choices f done S x y r h k =
      rw h (subst (λ l. Accepts (first_pattern (Terms f l) S) y r) (append-nil done) k)
  arguments_bar_read (and_choice a cs) f done S x y r h k =
      rw h.1 (choice_reads a (ForStrategy (Strategies (Arguments f) done) ∷ S) h.0 h.2.0 r h.2.1
      (arguments_bar_read cs f (done ++ core (order_of S) a ∷ []) S h.2.0 y r h.2.2
      (subst (λ l. Accepts (first_pattern (Terms f l) S) y r)
      (sym (append_assoc done (core (order_of S) a ∷ []) (strategy_list (core_all (order_of S) cs)))) k)))

-- the one result
pub reads_all : (a : Choice) (x : List Token) → ReadsChoice a x [] → Accepts (begin []) x (core Run a)
reads_all a x h = choice_reads a [] x [] (core Run a) h refl

-- the same in the order of the text
pub reads_in_text : (a : Choice) (x : List Token) → ReadsChoice a x []
    → Accepts (begin (InText ∷ [])) x (core Written a)
reads_in_text a x h = choice_reads a (InText ∷ []) x [] (core Written a) h refl
