-- What the grammar reads as a pattern, the machine reads.
use Rattle.std.proofs.Common.{◌≡◌, false, refl, sym, ap, subst, inl, inr, List, [], ◌∷◌, ◌++◌, append_assoc, append-nil}
use Rattle.std.specs.Prelude.{if◌then◌else◌}
use Rattle.term_core.specs.Tree.{Symbol, application as applied, list, tuple}
use Rattle.strategy_syntax.specs.Syntax as syntax
use Rattle.strategy_syntax.specs.Syntax.{Pattern, wildcard, variable, at, number, compound, with_tail, annotated, no_patterns, and_pattern, pattern_list, patterns_of, Strategy}
use Rattle.strategy_tokens.specs.declared.token.Token.{Token}
use Rattle.strategy_tokens.specs.declared.token.Token.TheVariants.{Sign as ASign}
use Rattle.strategy_tokens.specs.declared.token.Sign.TheVariants.{OpenRound, OpenCurly, Comma, Bar, At as AtSign}
use Rattle.strategy_parse.specs.declared.parser.state.ParserState.TheVariants.{Pattern as ToPattern, FirstPattern, Named}
use Rattle.strategy_parse.specs.declared.parser.state.ParserFrame.{ParserFrame}
use Rattle.strategy_parse.specs.declared.parser.state.ParserFrame.TheVariants.{At, Pattern as ForPattern}
use Rattle.strategy_parse.specs.declared.parser.state.PatternFrame.TheVariants.{List as Patterns, Tail as PatternTail}
use Rattle.strategy_parse.specs.declared.parser.state.PatternGroup.{PatternGroup}
use Rattle.strategy_parse.specs.declared.parser.state.PatternGroup.TheVariants.{Application as PApplication, List as PList, Tuple as PTuple, Annotations, Terms, Prim}
use Rattle.strategy_tokens.specs.Marks.{is_mark}
use Rattle.strategy_parse.specs.inside.Parser.{Next, goes, begin_pattern, after_pattern, after_base, after_one, closing_sign, close_patterns, first_pattern, step}
use Rattle.strategy_parse.specs.Grammar.{IsBase, ReadsPattern, ReadsPatterns, ReadsSomePatterns, ReadsMorePatterns}
use Rattle.strategy_tokens.proofs.MarkLemmas.{mark_self}
use Rattle.strategy_parse.proofs.Runs.{Accepts, Refuses, open_round, open_curly, at_sign, pattern-stuck, passes}

pub patterns_of-list : (ps : syntax.Patterns) → patterns_of (pattern_list ps) ≡ ps
patterns_of-list no_patterns = refl
patterns_of-list (and_pattern p ps) = ap (and_pattern p) (patterns_of-list ps)

-- ---- the machine where a form could continue and doesn't

pub base_in : (p : Pattern) (S : List ParserFrame) (y : List Token) (r : Strategy) → Accepts (after_pattern p S) y r
    → Accepts (after_base p S) y r
base_in p S y r k = passes OpenCurly (goes (FirstPattern (Annotations p)) S) (after_pattern p S) y r
    (λ K. pattern-stuck (ASign OpenCurly) open_curly refl refl refl refl S p K) k

pub named_in : (f : Symbol) (S : List ParserFrame) (y : List Token) (r : Strategy)
    → Accepts (after_base (variable f) S) y r → Accepts (step (Named f) S) y r
named_in f S y r k =
    passes OpenRound (goes (FirstPattern (PApplication f)) S)
    (λ t. if (is_mark AtSign t) then goes ToPattern (At f ∷ S) else after_base (variable f) S t) y r
    (λ K. pattern-stuck (ASign OpenRound) open_round refl refl refl refl S (variable f) K)
    (passes AtSign (goes ToPattern (At f ∷ S)) (after_base (variable f) S) y r
    (λ K. pattern-stuck (ASign AtSign) at_sign refl refl refl refl S (variable f) K) k)

-- after a pattern; its annotations may come if it is a base
unfoldable pub after_read : Pattern → List ParserFrame → Token → Next
after_read (at x p) S t = after_pattern (at x p) S t
after_read (annotated p ps) S t = after_pattern (annotated p ps) S t
after_read wildcard S t = after_base wildcard S t
after_read (variable x) S t = after_base (variable x) S t
after_read (number z) S t = after_base (number z) S t
after_read (compound h ps) S t = after_base (compound h ps) S t
after_read (with_tail ps p) S t = after_base (with_tail ps p) S t

whole_in : (p : Pattern) (S : List ParserFrame) (y : List Token) (r : Strategy) → Accepts (after_pattern p S) y r
    → Accepts (after_read p S) y r
unfolding after_read
whole_in (at x p) S y r k = k
whole_in (annotated p ps) S y r k = k
whole_in wildcard S y r k = base_in wildcard S y r k
whole_in (variable x) S y r k = base_in (variable x) S y r k
whole_in (number z) S y r k = base_in (number z) S y r k
whole_in (compound h ps) S y r k = base_in (compound h ps) S y r k
whole_in (with_tail ps p) S y r k = base_in (with_tail ps p) S y r k

read_base : (p : Pattern) (S : List ParserFrame) (y : List Token) (r : Strategy) → IsBase p
    → Accepts (after_base p S) y r → Accepts (after_read p S) y r
unfolding after_read
read_base (at x p) S y r b k = absurd b
read_base (annotated p ps) S y r b k = absurd b
read_base wildcard S y r b k = k
read_base (variable x) S y r b k = k
read_base (number z) S y r b k = k
read_base (compound h ps) S y r b k = k
read_base (with_tail ps p) S y r b k = k

-- a pattern begins with no closing sign
closing-begins : (g : PatternGroup) (S : List ParserFrame) → Refuses (begin_pattern S (ASign (closing_sign g)))
closing-begins (PApplication f) S K = refl
closing-begins PList S K = refl
closing-begins PTuple S K = refl
closing-begins (Annotations p) S K = refl
closing-begins (Terms f ss) S K = refl
closing-begins (Prim f) S K = refl

pub first_in : (g : PatternGroup) (S : List ParserFrame) (x : List Token) (r : Strategy)
    → Accepts (begin_pattern (ForPattern (Patterns g []) ∷ S)) x r → Accepts (first_pattern g S) x r
first_in g S x r k = passes (closing_sign g) (goes (close_patterns g []) S)
    (begin_pattern (ForPattern (Patterns g []) ∷ S)) x r (λ K. closing-begins g (ForPattern (Patterns g []) ∷ S) K) k

comma-closing : (g : PatternGroup) → is_mark Comma (ASign (closing_sign g)) ≡ false
comma-closing (PApplication f) = refl
comma-closing PList = refl
comma-closing PTuple = refl
comma-closing (Annotations p) = refl
comma-closing (Terms f ss) = refl
comma-closing (Prim f) = refl

-- the sign that closes a list
closes_first : (g : PatternGroup) (S : List ParserFrame) (y : List Token) (r : Strategy)
    → Accepts (step (close_patterns g []) S) y r → Accepts (first_pattern g S) (ASign (closing_sign g) ∷ y) r
closes_first g S y r k = rw (mark_self (closing_sign g)) k

closes_more : (g : PatternGroup) (done : List Pattern) (S : List ParserFrame) (y : List Token) (r : Strategy)
    → Accepts (step (close_patterns g done) S) y r → Accepts (after_one g done S) (ASign (closing_sign g) ∷ y) r
closes_more g done S y r k = rw (comma-closing g, mark_self (closing_sign g)) k

-- ---- the productions

mutual
  unfolding after_read

  front_in : (p : Pattern) (S : List ParserFrame) (x y : List Token) (r : Strategy) → ReadsPattern p x y
      → Accepts (after_read p S) y r → Accepts (begin_pattern S) x r
  front_in wildcard S x y r h k = rw h k
  front_in (variable f) S x y r h k = rw h (named_in f S y r k)
  front_in (at f p) S x y r h k =
      rw h.1 (rw h.2.1 (front_in p (At f ∷ S) h.2.0 y r h.2.2 (whole_in p (At f ∷ S) y r k)))
  front_in (number z) S x y r h k = rw h k
  front_in (compound (applied f) ps) S x y r (inl h) k =
      rw h.0 (subst (λ l. Accepts (after_base (compound (applied f) l) S) y r) h.1 k)
  front_in (compound (applied f) ps) S x y r (inr h) k =
      rw h.1 (rw h.2.1 (patterns_in ps (PApplication f) S h.2.0 y r h.2.2
      (subst (λ l. Accepts (after_base (compound (applied f) l) S) y r) (sym (patterns_of-list ps)) k)))
  front_in (compound list ps) S x y r h k =
      rw h.1 (patterns_in ps PList S h.0 y r h.2
      (subst (λ l. Accepts (after_base (compound list l) S) y r) (sym (patterns_of-list ps)) k))
  front_in (compound tuple ps) S x y r h k =
      rw h.1 (patterns_in ps PTuple S h.0 y r h.2
      (subst (λ l. Accepts (after_base (compound tuple l) S) y r) (sym (patterns_of-list ps)) k))
  front_in (with_tail ps p) S x y r h k =
      rw h.1 (some_in ps S h.0 h.2.0 r h.2.1
      (front_in p (ForPattern (PatternTail (pattern_list ps)) ∷ S) h.2.0 h.2.2.0 r h.2.2.1
      (whole_in p (ForPattern (PatternTail (pattern_list ps)) ∷ S) h.2.2.0 r
      (rw h.2.2.2 (subst (λ l. Accepts (after_base (with_tail l p) S) y r) (sym (patterns_of-list ps)) k)))))
  front_in (annotated p ps) S x y r h k =
      front_in p S x h.1.0 r h.1.1 (read_base p S h.1.0 r h.0
      (rw h.1.2.1 (patterns_in ps (Annotations p) S h.1.2.0 y r h.1.2.2
      (subst (λ l. Accepts (after_pattern (annotated p l) S) y r) (sym (patterns_of-list ps)) k))))

  patterns_in : (ps : syntax.Patterns) (g : PatternGroup) (S : List ParserFrame) (x y : List Token) (r : Strategy)
      → ReadsPatterns ps (closing_sign g) x y
      → Accepts (step (close_patterns g (pattern_list ps)) S) y r → Accepts (first_pattern g S) x r
  patterns_in no_patterns g S x y r h k = subst (λ l. Accepts (first_pattern g S) l r) (sym h) (closes_first g S y r k)
  patterns_in (and_pattern p ps) g S x y r h k =
      first_in g S x r (front_in p (ForPattern (Patterns g []) ∷ S) x h.0 r h.1
      (whole_in p (ForPattern (Patterns g []) ∷ S) h.0 r (more_in ps g (p ∷ []) S h.0 y r h.2 k)))

  some_in : (ps : syntax.Patterns) (S : List ParserFrame) (x y : List Token) (r : Strategy)
      → ReadsSomePatterns ps Bar x y
      → Accepts (begin_pattern (ForPattern (PatternTail (pattern_list ps)) ∷ S)) y r
      → Accepts (first_pattern PList S) x r
  some_in no_patterns S x y r h k = absurd h
  some_in (and_pattern p ps) S x y r h k =
      first_in PList S x r (front_in p (ForPattern (Patterns PList []) ∷ S) x h.0 r h.1
      (whole_in p (ForPattern (Patterns PList []) ∷ S) h.0 r (bar_in ps (p ∷ []) S h.0 y r h.2 k)))

  more_in : (ps : syntax.Patterns) (g : PatternGroup) (done : List Pattern) (S : List ParserFrame) (x y : List Token)
      (r : Strategy) → ReadsMorePatterns ps (closing_sign g) x y
      → Accepts (step (close_patterns g (done ++ pattern_list ps)) S) y r → Accepts (after_one g done S) x r
  more_in no_patterns g done S x y r h k =
      subst (λ l. Accepts (after_one g done S) l r) (sym h)
      (closes_more g done S y r (subst (λ l. Accepts (step (close_patterns g l) S) y r) (append-nil done) k))
  more_in (and_pattern p ps) g done S x y r h k =
      rw h.1 (front_in p (ForPattern (Patterns g done) ∷ S) h.0 h.2.0 r h.2.1
      (whole_in p (ForPattern (Patterns g done) ∷ S) h.2.0 r
      (more_in ps g (done ++ p ∷ []) S h.2.0 y r h.2.2
      (subst (λ l. Accepts (step (close_patterns g l) S) y r) (sym (append_assoc done (p ∷ []) (pattern_list ps))) k))))

  bar_in : (ps : syntax.Patterns) (done : List Pattern) (S : List ParserFrame) (x y : List Token) (r : Strategy)
      → ReadsMorePatterns ps Bar x y
      → Accepts (begin_pattern (ForPattern (PatternTail (done ++ pattern_list ps)) ∷ S)) y r
      → Accepts (after_one PList done S) x r
  bar_in no_patterns done S x y r h k =
      rw h (subst (λ l. Accepts (begin_pattern (ForPattern (PatternTail l) ∷ S)) y r) (append-nil done) k)
  bar_in (and_pattern p ps) done S x y r h k =
      rw h.1 (front_in p (ForPattern (Patterns PList done) ∷ S) h.0 h.2.0 r h.2.1
      (whole_in p (ForPattern (Patterns PList done) ∷ S) h.2.0 r
      (bar_in ps (done ++ p ∷ []) S h.2.0 y r h.2.2 (subst (λ l. Accepts
      (begin_pattern (ForPattern (PatternTail l) ∷ S)) y r) (sym (append_assoc done (p ∷ []) (pattern_list ps))) k))))

-- a pattern by the grammar, if the rest is accepted after it
pub pattern_in : (p : Pattern) (S : List ParserFrame) (x y : List Token) (r : Strategy) → ReadsPattern p x y
    → Accepts (after_pattern p S) y r → Accepts (begin_pattern S) x r
pattern_in p S x y r h k = front_in p S x y r h (whole_in p S y r k)

-- a list of patterns after its first sign, and one after a `,`
pub list_in : (ps : syntax.Patterns) (g : PatternGroup) (S : List ParserFrame) (x y : List Token) (r : Strategy)
    → ReadsPatterns ps (closing_sign g) x y
    → Accepts (step (close_patterns g (pattern_list ps)) S) y r → Accepts (first_pattern g S) x r
list_in ps g S x y r h k = patterns_in ps g S x y r h k

pub rest_in : (ps : syntax.Patterns) (g : PatternGroup) (done : List Pattern) (S : List ParserFrame) (x y : List Token)
    (r : Strategy) → ReadsMorePatterns ps (closing_sign g) x y
    → Accepts (step (close_patterns g (done ++ pattern_list ps)) S) y r → Accepts (after_one g done S) x r
rest_in ps g done S x y r h k = more_in ps g done S x y r h k
