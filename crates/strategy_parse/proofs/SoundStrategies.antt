-- What the machine reads as a strategy, the grammar reads.
use Rattle.std.proofs.Common.{◌≡◌, ℕ, zero, suc, ℤ, pos, negsuc, refl, ap, subst, inl, inr, List, [], ◌∷◌, length, ◌≤◌, ◌<◌, arith}
use Rattle.std.specs.Prelude.{if◌then◌else◌}
use Rattle.term_core.specs.Tree.{Symbol, same_name, list}
use Rattle.strategy_syntax.specs.Syntax as syntax
use Rattle.strategy_syntax.specs.Syntax.{no_patterns, and_pattern, pattern_list, patterns_of, Strategy, strategy_list, strategies_of}
use Rattle.strategy_tokens.specs.declared.token.Token.{Token}
use Rattle.strategy_tokens.specs.declared.token.Token.TheVariants.{Ident, Wildcard, Reserved, Integer, Text, Sign as ASign, Bad}
use Rattle.strategy_tokens.specs.declared.token.Keyword.{Keyword}
use Rattle.strategy_tokens.specs.declared.token.Keyword.TheVariants.{Id as KId, Fail as KFail, All as KAll, One as KOne, Some as KSome, Not as KNot, Where as KWhere, Test as KTest, If as KIf, Then as KThen, Else as KElse, End as KEnd, Rec as KRec, Prim as KPrim}
use Rattle.strategy_tokens.specs.declared.token.Sign.{Sign}
use Rattle.strategy_tokens.specs.declared.token.Sign.TheVariants.{OpenRound, CloseRound, OpenSquare, CloseSquare, OpenCurly, CloseCurly, Comma, Bar, Arrow as RightArrow, Less, Greater, Question, Exclamation, Backslash}
use Rattle.strategy_parse.specs.declared.parser.state.ParserState.TheVariants.{Strategy as ToStrategy, FirstStrategy, Read, Used, Opening, Prim as AfterPrim, PrimOpen, PrimNamed, ScopeOpen, Pattern as ToPattern}
use Rattle.strategy_parse.specs.declared.parser.state.ParserFrame.{ParserFrame}
use Rattle.strategy_parse.specs.declared.parser.state.ParserFrame.TheVariants.{Strategy as ForStrategy, Pattern as ForPattern}
use Rattle.strategy_parse.specs.declared.parser.state.Order.TheVariants.{Run}
use Rattle.strategy_parse.specs.declared.parser.state.StrategyFrame.{StrategyFrame}
use Rattle.strategy_parse.specs.declared.parser.state.StrategyFrame.TheVariants.{Operator as Operated, Rec, Child, Scope, Application, If, Then, Else, Where, Tail as SquareTail}
use Rattle.strategy_parse.specs.declared.parser.state.PatternFrame.TheVariants.{Match, Build, Applied, Left as ClosureLeft, Right as ClosureRight, List as Patterns}
use Rattle.strategy_parse.specs.declared.parser.state.Operator.{Operator}
use Rattle.strategy_parse.specs.declared.parser.state.Operator.TheVariants.{All, One, Some as SomeChild, Not, Where as WhereOf, Test}
use Rattle.strategy_parse.specs.declared.parser.state.StrategyGroup.TheVariants.{Round, Square, Arguments}
use Rattle.strategy_parse.specs.declared.parser.state.PatternGroup.{PatternGroup}
use Rattle.strategy_parse.specs.declared.parser.state.PatternGroup.TheVariants.{Terms, Prim}
use Rattle.strategy_tokens.specs.Marks.{is_mark, is_word}
use Rattle.strategy_parse.specs.inside.Parser.{order_of, goes, stuck, begin, begin_sign, begin_word, begin_child, begin_pattern, after, after_choice, first_pattern, rec_name, prim_name, step}
use Rattle.strategy_parse.specs.Grammar.{word_of, ReadsChoice, ReadsChoices}
use Rattle.strategy_parse.specs.Written.{Choice, question, exclamation, application, identity, failure, operator, if_then, if_then_else, recursion, primitive, local, closure, closure_where, round, square, square_with_tail, name, call, call_with_terms, child, Choices, no_choices, and_choice}
use Rattle.strategy_syntax.specs.Variables.{variables}
use Rattle.strategy_syntax.specs.Lists.{first_ones}
use Rattle.strategy_parse.specs.Core.{operated, in_brackets, rewrite, rewrite_where, core, core_all}
use Rattle.strategy_parse.proofs.Runs.{Accepts, Goes, at_mark, only_mark, at_word, only_word}
use Rattle.strategy_parse.proofs.CompletePatterns.{patterns_of-list}
use Rattle.strategy_parse.proofs.CompleteStrategies.{strategies_of-list, Bare}
use Rattle.strategy_parse.proofs.SoundPatterns.{FoundPattern, Listed, More, pattern_found, list_found, more_found}
use Rattle.strategy_parse.proofs.SoundParts.{FoundPrefix, FoundChoice, ListOf, Opened, FoundNames, PrefixesTo, pattern_at, names_found}
use Rattle.strategy_parse.proofs.SoundChoices.{choice_found, framed, list_of}

module _ (n : ℕ) (P : PrefixesTo n) where
  -- ---- a strategy in round brackets

  opened : (F : StrategyFrame) (S : List ParserFrame) (x : List Token) (r : Strategy)
      → length x ≤ n → Accepts (step (Opening F) S) x r → Opened F S x r
  opened F S x r le k =
      let open_at = only_mark OpenRound (goes ToStrategy (ForStrategy F ∷ S)) x r k in
      let l : length x ≡ suc (length open_at.0) = ap length open_at.1 in
      let a : FoundChoice (ForStrategy F ∷ S) open_at.0 r = framed n P F S open_at.0 r (omega arith) open_at.2 in
      let la : length a.rest < length open_at.0 = a.shorter in
      record {
        inner = open_at.0;
        choice = a.choice;
        ends_at = a.rest;
        opens = open_at.1;
        reads = a.reads;
        accepts = a.accepts;
        shorter = omega arith;
      }

  operated_found : (o : Operator) (S : List ParserFrame) (ts : List Token) (r : Strategy)
      → length ts ≤ n → Accepts (step (Opening (Operated o)) S) ts r → FoundPrefix S (Reserved (word_of o) ∷ ts) r
  operated_found o S ts r le k =
      let a : Opened (Operated o) S ts r = opened (Operated o) S ts r le k in
      let la : length a.ends_at < length ts = a.shorter in
      let end = only_mark CloseRound (goes (Read (operated o (core (order_of S) a.choice))) S) a.ends_at r a.accepts in
      let l : length a.ends_at ≡ suc (length end.0) = ap length end.1 in
      record {
        prefix = operator o a.choice;
        rest = end.0;
        reads = (ts, refl, (a.inner, a.opens, (a.ends_at, a.reads, end.1)));
        accepts = end.2;
        shorter = omega arith;
      }

  child_found : (i : ℕ) (S : List ParserFrame) (ts : List Token) (r : Strategy)
      → length ts ≤ n → Accepts (step (Opening (Child (suc i))) S) ts r → FoundPrefix S (Integer (pos (suc i)) ∷ ts) r
  child_found i S ts r le k =
      let a : Opened (Child (suc i)) S ts r = opened (Child (suc i)) S ts r le k in
      let la : length a.ends_at < length ts = a.shorter in
      let end =
      only_mark CloseRound (goes (Read (syntax.child (suc i) (core (order_of S) a.choice))) S) a.ends_at r a.accepts in
      let l : length a.ends_at ≡ suc (length end.0) = ap length end.1 in
      record {
        prefix = child (suc i) a.choice;
        rest = end.0;
        reads = (omega arith, (ts, refl, (a.inner, a.opens, (a.ends_at, a.reads, end.1))));
        accepts = end.2;
        shorter = omega arith;
      }

  rec_found : (S : List ParserFrame) (ts : List Token) (r : Strategy) → length ts ≤ n → Accepts (rec_name S) ts r
      → FoundPrefix S (Reserved KRec ∷ ts) r
  rec_found S [] r le k = absurd (cc)
  rec_found S (Ident f ∷ ts) r le k =
      let a : Opened (Rec f) S ts r = opened (Rec f) S ts r (omega arith) k in
      let la : length a.ends_at < length ts = a.shorter in
      let end =
      only_mark CloseRound (goes (Read (syntax.rec f (core (order_of S) a.choice))) S) a.ends_at r a.accepts in
      let l : length a.ends_at ≡ suc (length end.0) = ap length end.1 in
      record {
        prefix = recursion f a.choice;
        rest = end.0;
        reads = (Ident f ∷ ts, refl, (ts, refl, (a.inner, a.opens, (a.ends_at, a.reads, end.1))));
        accepts = end.2;
        shorter = omega arith;
      }
  rec_found S (Wildcard ∷ ts) r le k = absurd (cc)
  rec_found S (Reserved w ∷ ts) r le k = absurd (cc)
  rec_found S (Integer z ∷ ts) r le k = absurd (cc)
  rec_found S (Text f ∷ ts) r le k = absurd (cc)
  rec_found S (ASign s ∷ ts) r le k = absurd (cc)
  rec_found S (Bad ∷ ts) r le k = absurd (cc)

  -- ---- primitives

  prim_more : (f : Symbol) (S : List ParserFrame) (x y z : List Token) (w : List Token) (r : Strategy)
      → x ≡ ASign OpenRound ∷ y → y ≡ Text f ∷ z → z ≡ ASign Comma
      ∷ w → (p : FoundPattern (ForPattern (Patterns (Prim f) []) ∷ S) w r)
      → More (Prim f) (p.pattern ∷ []) S p.rest r → FoundPrefix S (Reserved KPrim ∷ x) r
  prim_more f S x y z w r ex ey ez p (inl more) =
      let lx : length x ≡ suc (length y) = ap length ex in
      let ly : length y ≡ suc (length z) = ap length ey in
      let lz : length z ≡ suc (length w) = ap length ez in
      let lp : length p.rest < length w = p.shorter in
      let lm : length more.rest < length p.rest = more.shorter in
      record {
        prefix = primitive f (and_pattern p.pattern more.patterns);
        rest = more.rest;
        reads = (x, refl, (y, ex, (z, ey, (w, ez, (p.rest, p.reads, more.reads)))));
        accepts = subst (λ l. Accepts (after (syntax.prim f (and_pattern p.pattern l)) S) more.rest r)
            (patterns_of-list more.patterns) more.accepts;
        shorter = omega arith;
      }
  prim_more f S x y z w r ex ey ez p (inr (same, more)) = absurd (cc)

  prim_named : (f : Symbol) (S : List ParserFrame) (x y z : List Token) (r : Strategy) → x ≡ ASign OpenRound
      ∷ y → y ≡ Text f ∷ z → Accepts (step (PrimNamed f) S) z r → FoundPrefix S (Reserved KPrim ∷ x) r
  prim_named f S x y z r ex ey k = elim (at_mark Comma (goes ToPattern (ForPattern (Patterns (Prim f) []) ∷ S))
      (λ t. if (is_mark CloseRound t) then goes (Read (syntax.prim f no_patterns)) S else stuck) z r k) [
        | inl next ↦
            let p : FoundPattern (ForPattern (Patterns (Prim f) []) ∷ S) next.0 r =
            pattern_at (ForPattern (Patterns (Prim f) []) ∷ S) next.0 r next.2 in
            prim_more f S x y z next.0 r ex ey next.1 p (more_found (length p.rest) (pattern_found (length p.rest))
            (length p.rest) (omega arith) (Prim f) (p.pattern ∷ []) S p.rest r (omega arith) p.accepts)
        | inr other ↦
            let end = only_mark CloseRound (goes (Read (syntax.prim f no_patterns)) S) z r other in
            let lx : length x ≡ suc (length y) = ap length ex in
            let ly : length y ≡ suc (length z) = ap length ey in
            let lz : length z ≡ suc (length end.0) = ap length end.1 in
            record {
              prefix = primitive f no_patterns;
              rest = end.0;
              reads = (x, refl, (y, ex, (z, ey, end.1)));
              accepts = end.2;
              shorter = omega arith;
            }
      ]

  prim_opened : (S : List ParserFrame) (x y : List Token) (r : Strategy)
      → x ≡ ASign OpenRound ∷ y → Accepts (prim_name S) y r → FoundPrefix S (Reserved KPrim ∷ x) r
  prim_opened S x [] r e k = absurd (cc)
  prim_opened S x (Text f ∷ z) r e k = prim_named f S x (Text f ∷ z) z r e refl k
  prim_opened S x (Ident f ∷ z) r e k = absurd (cc)
  prim_opened S x (Wildcard ∷ z) r e k = absurd (cc)
  prim_opened S x (Reserved w ∷ z) r e k = absurd (cc)
  prim_opened S x (Integer i ∷ z) r e k = absurd (cc)
  prim_opened S x (ASign s ∷ z) r e k = absurd (cc)
  prim_opened S x (Bad ∷ z) r e k = absurd (cc)

  prim_found : (S : List ParserFrame) (ts : List Token) (r : Strategy) → Accepts (step AfterPrim S) ts r
      → FoundPrefix S (Reserved KPrim ∷ ts) r
  prim_found S ts r k = let open_at = only_mark OpenRound (goes PrimOpen S) ts r k in
      prim_opened S ts open_at.0 r open_at.1 open_at.2

  -- ---- conditions

  if_found : (S : List ParserFrame) (ts : List Token) (r : Strategy)
      → length ts ≤ n → Accepts (begin (ForStrategy If ∷ S)) ts r → FoundPrefix S (Reserved KIf ∷ ts) r
  if_found S ts r le k =
      let a : FoundChoice (ForStrategy If ∷ S) ts r = framed n P If S ts r le k in
      let la : length a.rest < length ts = a.shorter in
      let then_at =
      only_word KThen (goes ToStrategy (ForStrategy (Then (core (order_of S) a.choice)) ∷ S)) a.rest r a.accepts in
      let lt : length a.rest ≡ suc (length then_at.0) = ap length then_at.1 in
      let b : FoundChoice (ForStrategy (Then (core (order_of S) a.choice)) ∷ S) then_at.0 r =
      framed n P (Then (core (order_of S) a.choice)) S then_at.0 r (omega arith) then_at.2 in
      let lb : length b.rest < length then_at.0 = b.shorter in
      elim (at_word KElse (goes ToStrategy
      (ForStrategy (Else (core (order_of S) a.choice) (core (order_of S) b.choice)) ∷ S)) (λ t. if (is_word KEnd t) then
      goes (Read (syntax.guard (syntax.test (core (order_of S) a.choice)) (core (order_of S) b.choice) syntax.id)) S
      else stuck) b.rest r b.accepts) [
        | inl else_at ↦
            let l : length b.rest ≡ suc (length else_at.0) = ap length else_at.1 in
            let c : FoundChoice
            (ForStrategy (Else (core (order_of S) a.choice) (core (order_of S) b.choice)) ∷ S) else_at.0 r = framed n P
            (Else (core (order_of S) a.choice) (core (order_of S) b.choice)) S else_at.0 r (omega arith) else_at.2 in
            let lc : length c.rest < length else_at.0 = c.shorter in
            let end = only_word KEnd (goes (Read (syntax.guard (syntax.test (core (order_of S) a.choice))
            (core (order_of S) b.choice) (core (order_of S) c.choice))) S) c.rest r c.accepts in
            let l' : length c.rest ≡ suc (length end.0) = ap length end.1 in
            record {
              prefix = if_then_else a.choice b.choice c.choice;
              rest = end.0;
              reads = (
                ts,
                refl,
                (
                  a.rest,
                  a.reads,
                  (then_at.0, then_at.1, (b.rest, b.reads, (else_at.0, else_at.1, (c.rest, c.reads, end.1)))),
                ),
              );
              accepts = end.2;
              shorter = omega arith;
            }
        | inr other ↦
            let end = only_word KEnd (goes
            (Read (syntax.guard (syntax.test (core (order_of S) a.choice)) (core (order_of S) b.choice) syntax.id)) S)
            b.rest r other in
            let l : length b.rest ≡ suc (length end.0) = ap length end.1 in
            record {
              prefix = if_then a.choice b.choice;
              rest = end.0;
              reads = (ts, refl, (a.rest, a.reads, (then_at.0, then_at.1, (b.rest, b.reads, end.1))));
              accepts = end.2;
              shorter = omega arith;
            }
      ]

  -- ---- signs

  question_found : (S : List ParserFrame) (ts : List Token) (r : Strategy)
      → Accepts (begin_pattern (ForPattern Match ∷ S)) ts r → FoundPrefix S (ASign Question ∷ ts) r
  question_found S ts r k =
      let p : FoundPattern (ForPattern Match ∷ S) ts r = pattern_at (ForPattern Match ∷ S) ts r k in
      let lp : length p.rest < length ts = p.shorter in
      record {
        prefix = question p.pattern;
        rest = p.rest;
        reads = (ts, refl, p.reads);
        accepts = p.accepts;
        shorter = omega arith;
      }

  exclamation_found : (S : List ParserFrame) (ts : List Token) (r : Strategy)
      → Accepts (begin_pattern (ForPattern Build ∷ S)) ts r → FoundPrefix S (ASign Exclamation ∷ ts) r
  exclamation_found S ts r k =
      let p : FoundPattern (ForPattern Build ∷ S) ts r = pattern_at (ForPattern Build ∷ S) ts r k in
      let lp : length p.rest < length ts = p.shorter in
      record {
        prefix = exclamation p.pattern;
        rest = p.rest;
        reads = (ts, refl, p.reads);
        accepts = p.accepts;
        shorter = omega arith;
      }

  application_found : (S : List ParserFrame) (ts : List Token) (r : Strategy)
      → length ts ≤ n → Accepts (begin (ForStrategy Application ∷ S)) ts r → FoundPrefix S (ASign Less ∷ ts) r
  application_found S ts r le k =
      let a : FoundChoice (ForStrategy Application ∷ S) ts r = framed n P Application S ts r le k in
      let la : length a.rest < length ts = a.shorter in
      let greater =
      only_mark Greater (goes ToPattern (ForPattern (Applied (core (order_of S) a.choice)) ∷ S)) a.rest r a.accepts in
      let l : length a.rest ≡ suc (length greater.0) = ap length greater.1 in
      let p : FoundPattern (ForPattern (Applied (core (order_of S) a.choice)) ∷ S) greater.0 r =
      pattern_at (ForPattern (Applied (core (order_of S) a.choice)) ∷ S) greater.0 r greater.2 in
      let lp : length p.rest < length greater.0 = p.shorter in
      record {
        prefix = application a.choice p.pattern;
        rest = p.rest;
        reads = (ts, refl, (a.rest, a.reads, (greater.0, greater.1, p.reads)));
        accepts = p.accepts;
        shorter = omega arith;
      }

  scope_found : (S : List ParserFrame) (ts : List Token) (r : Strategy)
      → length ts ≤ n → Accepts (step ScopeOpen S) ts r → FoundPrefix S (ASign OpenCurly ∷ ts) r
  scope_found S ts r le k =
      let xs : FoundNames S ts r = names_found S ts r k in
      let lx : length xs.rest < length ts = xs.shorter in
      let a : FoundChoice (ForStrategy (Scope xs.names) ∷ S) xs.rest r =
      framed n P (Scope xs.names) S xs.rest r (omega arith) xs.accepts in
      let la : length a.rest < length xs.rest = a.shorter in
      let end =
      only_mark CloseCurly (goes (Read (syntax.scope xs.names (core (order_of S) a.choice))) S) a.rest r a.accepts in
      let l : length a.rest ≡ suc (length end.0) = ap length end.1 in
      record {
        prefix = local xs.names a.choice;
        rest = end.0;
        reads = (ts, refl, (xs.rest, xs.reads, (a.rest, a.reads, end.1)));
        accepts = end.2;
        shorter = omega arith;
      }

  closure_found : (S : List ParserFrame) (ts : List Token) (r : Strategy) → length ts
      ≤ n → Accepts (begin_pattern (ForPattern ClosureLeft ∷ S)) ts r → FoundPrefix S (ASign Backslash ∷ ts) r
  closure_found S ts r le k =
      let p : FoundPattern (ForPattern ClosureLeft ∷ S) ts r = pattern_at (ForPattern ClosureLeft ∷ S) ts r k in
      let lp : length p.rest < length ts = p.shorter in
      let to = only_mark RightArrow (goes ToPattern (ForPattern (ClosureRight p.pattern) ∷ S)) p.rest r p.accepts in
      let l : length p.rest ≡ suc (length to.0) = ap length to.1 in
      let q : FoundPattern (ForPattern (ClosureRight p.pattern) ∷ S) to.0 r =
      pattern_at (ForPattern (ClosureRight p.pattern) ∷ S) to.0 r to.2 in
      let lq : length q.rest < length to.0 = q.shorter in
      elim (at_mark Backslash
      (goes (Read (syntax.scope (first_ones same_name [] (variables p.pattern)) (rewrite p.pattern q.pattern))) S)
      (λ t. if (is_word KWhere t) then goes ToStrategy (ForStrategy (Where p.pattern q.pattern) ∷ S) else stuck) q.rest
      r q.accepts) [
        | inl end ↦
            let l' : length q.rest ≡ suc (length end.0) = ap length end.1 in
            record {
              prefix = closure p.pattern q.pattern;
              rest = end.0;
              reads = (ts, refl, (p.rest, p.reads, (to.0, to.1, (q.rest, q.reads, end.1))));
              accepts = end.2;
              shorter = omega arith;
            }
        | inr other ↦
            let where_at =
            only_word KWhere (goes ToStrategy (ForStrategy (Where p.pattern q.pattern) ∷ S)) q.rest r other in
            let lw : length q.rest ≡ suc (length where_at.0) = ap length where_at.1 in
            let a : FoundChoice (ForStrategy (Where p.pattern q.pattern) ∷ S) where_at.0 r =
            framed n P (Where p.pattern q.pattern) S where_at.0 r (omega arith) where_at.2 in
            let la : length a.rest < length where_at.0 = a.shorter in
            let end = only_mark Backslash (goes (Read (syntax.scope (first_ones same_name [] (variables p.pattern))
            (rewrite_where (order_of S) p.pattern q.pattern (core (order_of S) a.choice)))) S) a.rest r a.accepts in
            let l' : length a.rest ≡ suc (length end.0) = ap length end.1 in
            record {
              prefix = closure_where p.pattern q.pattern a.choice;
              rest = end.0;
              reads = (
                ts,
                refl,
                (p.rest, p.reads, (to.0, to.1, (q.rest, q.reads, (where_at.0, where_at.1, (a.rest, a.reads, end.1))))),
              );
              accepts = end.2;
              shorter = omega arith;
            }
      ]

  round_found : (S : List ParserFrame) (ts : List Token) (r : Strategy) → ListOf Round S ts r
      → FoundPrefix S (ASign OpenRound ∷ ts) r
  round_found S ts r (inl found) =
      let l : length found.rest < length ts = found.shorter in
      record {
        prefix = round found.choices;
        rest = found.rest;
        reads = (ts, refl, found.reads);
        accepts = subst (λ l. Accepts (after (in_brackets l) S) found.rest r)
            (strategies_of-list (core_all (order_of S) found.choices)) found.accepts;
        shorter = omega arith;
      }
  round_found S ts r (inr (inl found)) = let refused = found.goes_on in absurd (cc)
  round_found S ts r (inr (inr found)) = let refused = found.goes_on in absurd (cc)

  square_found : (S : List ParserFrame) (ts : List Token) (r : Strategy) → length ts ≤ n → ListOf Square S ts r
      → FoundPrefix S (ASign OpenSquare ∷ ts) r
  square_found S ts r le (inl found) =
      let l : length found.rest < length ts = found.shorter in
      record {
        prefix = square found.choices;
        rest = found.rest;
        reads = (ts, refl, found.reads);
        accepts = subst (λ l. Accepts (after (syntax.congruence list l) S) found.rest r)
            (strategies_of-list (core_all (order_of S) found.choices)) found.accepts;
        shorter = omega arith;
      }
  square_found S ts r le (inr (inl found)) =
      let l : length found.rest < length ts = found.shorter in
      let done = core (order_of S) found.first ∷ strategy_list (core_all (order_of S) found.choices) in
      let a : FoundChoice (ForStrategy (SquareTail
      (core (order_of S) found.first ∷ strategy_list (core_all (order_of S) found.choices))) ∷ S) found.rest r =
      framed n P (SquareTail (core (order_of S) found.first ∷ strategy_list (core_all (order_of S) found.choices))) S
      found.rest r (omega arith) found.goes_on in
      let la : length a.rest < length found.rest = a.shorter in
      let end = only_mark CloseSquare (goes (Read (syntax.tail_congruence (strategies_of (core (order_of S) found.first
      ∷ strategy_list (core_all (order_of S) found.choices))) (core (order_of S) a.choice))) S) a.rest r a.accepts in
      let l' : length a.rest ≡ suc (length end.0) = ap length end.1 in
      record {
        prefix = square_with_tail (and_choice found.first found.choices) a.choice;
        rest = end.0;
        reads = (ts, refl, (found.rest, found.reads, (a.rest, a.reads, end.1)));
        accepts = subst
            (λ l. Accepts (after (syntax.tail_congruence (syntax.and_strategy (core (order_of S) found.first) l)
            (core (order_of S) a.choice)) S) end.0 r) (strategies_of-list (core_all (order_of S) found.choices)) end.2;
        shorter = omega arith;
      }
  square_found S ts r le (inr (inr found)) = let refused = found.goes_on in absurd (cc)

  terms_found : (f : Symbol) (cs : Choices) (S : List ParserFrame) (ts z y : List Token) (r : Strategy)
      → ts ≡ ASign OpenRound ∷ z → ReadsChoices cs Bar z y → length y < length z
      → Listed (Terms f (strategy_list (core_all (order_of S) cs))) S y r → FoundPrefix S (Ident f ∷ ts) r
  terms_found f cs S ts z y r e reads ly (inl found) =
      let l : length ts ≡ suc (length z) = ap length e in
      let lf : length found.rest < length y = found.shorter in
      record {
        prefix = call_with_terms f cs found.patterns;
        rest = found.rest;
        reads = (ts, refl, (z, e, (y, reads, found.reads)));
        accepts = subst (λ l. Accepts (after (syntax.uses f (core_all (order_of S) cs) l) S) found.rest r)
            (patterns_of-list found.patterns)
            (subst (λ l. Accepts (after (syntax.uses f l (patterns_of (pattern_list found.patterns))) S) found.rest r)
            (strategies_of-list (core_all (order_of S) cs)) found.accepts);
        shorter = omega arith;
      }
  terms_found f cs S ts z y r e reads ly (inr (same, found)) = absurd (cc)

  patterns_at : (g : PatternGroup) (S : List ParserFrame) (x : List Token) (r : Strategy)
      → Accepts (first_pattern g S) x r → Listed g S x r
  patterns_at g S x r k = list_found (length x) (pattern_found (length x)) g S x r (omega arith) k

  call_found : (f : Symbol) (S : List ParserFrame) (ts z : List Token) (r : Strategy)
      → ts ≡ ASign OpenRound ∷ z → ListOf (Arguments f) S z r → FoundPrefix S (Ident f ∷ ts) r
  call_found f S ts z r e (inl found) =
      let l : length ts ≡ suc (length z) = ap length e in
      let lf : length found.rest < length z = found.shorter in
      record {
        prefix = call f found.choices;
        rest = found.rest;
        reads = (ts, refl, (z, e, found.reads));
        accepts = subst (λ l. Accepts (after (syntax.uses f l no_patterns) S) found.rest r)
            (strategies_of-list (core_all (order_of S) found.choices)) found.accepts;
        shorter = omega arith;
      }
  call_found f S ts z r e (inr (inl found)) =
      terms_found f (and_choice found.first found.choices) S ts z found.rest r e found.reads found.shorter
      (patterns_at (Terms f (core (order_of S) found.first ∷ strategy_list (core_all (order_of S) found.choices))) S
      found.rest r found.goes_on)
  call_found f S ts z r e (inr (inr found)) =
      terms_found f no_choices S ts z found.rest r e found.reads found.shorter
      (patterns_at (Terms f []) S found.rest r found.goes_on)

  used_found : (f : Symbol) (S : List ParserFrame) (ts : List Token) (r : Strategy)
      → length ts ≤ n → Accepts (step (Used f) S) ts r → FoundPrefix S (Ident f ∷ ts) r
  used_found f S ts r le k = elim (at_mark OpenRound (goes (FirstStrategy (Arguments f)) S)
      (after (syntax.uses f syntax.no_strategies no_patterns) S) ts r k) [
        | inl open_at ↦
            let l : length ts ≡ suc (length open_at.0) = ap length open_at.1 in
            call_found f S ts open_at.0 r open_at.1 (list_of n P (Arguments f) S open_at.0 r (omega arith) open_at.2)
        | inr other ↦ record { prefix = name f; rest = ts; reads = refl; accepts = other; shorter = omega arith }
      ]

  -- ---- what a token begins

  sign_found : (s : Sign) (S : List ParserFrame) (ts : List Token) (r : Strategy)
      → length ts ≤ n → Goes (begin_sign S s) ts r → FoundPrefix S (ASign s ∷ ts) r
  sign_found Question S ts r le k = question_found S ts r k
  sign_found Exclamation S ts r le k = exclamation_found S ts r k
  sign_found Less S ts r le k = application_found S ts r le k
  sign_found OpenCurly S ts r le k = scope_found S ts r le k
  sign_found Backslash S ts r le k = closure_found S ts r le k
  sign_found OpenRound S ts r le k = round_found S ts r (list_of n P Round S ts r le k)
  sign_found OpenSquare S ts r le k = square_found S ts r le (list_of n P Square S ts r le k)
  sign_found s S ts r le k = absurd (cc)

  word_found : (w : Keyword) (S : List ParserFrame) (ts : List Token) (r : Strategy)
      → length ts ≤ n → Goes (begin_word S w) ts r → FoundPrefix S (Reserved w ∷ ts) r
  word_found KId S ts r le k = record { prefix = identity; rest = ts; reads = refl; accepts = k; shorter = omega arith }
  word_found KFail S ts r le k =
      record { prefix = failure; rest = ts; reads = refl; accepts = k; shorter = omega arith }
  word_found KAll S ts r le k = operated_found All S ts r le k
  word_found KOne S ts r le k = operated_found One S ts r le k
  word_found KSome S ts r le k = operated_found SomeChild S ts r le k
  word_found KNot S ts r le k = operated_found Not S ts r le k
  word_found KWhere S ts r le k = operated_found WhereOf S ts r le k
  word_found KTest S ts r le k = operated_found Test S ts r le k
  word_found KIf S ts r le k = if_found S ts r le k
  word_found KRec S ts r le k = rec_found S ts r le k
  word_found KPrim S ts r le k = prim_found S ts r k
  word_found w S ts r le k = absurd (cc)

  number_found : (z : ℤ) (S : List ParserFrame) (ts : List Token) (r : Strategy)
      → length ts ≤ n → Goes (begin_child S z) ts r → FoundPrefix S (Integer z ∷ ts) r
  number_found (pos (suc i)) S ts r le k = child_found i S ts r le k
  number_found (pos zero) S ts r le k = absurd (cc)
  number_found (negsuc i) S ts r le k = absurd (cc)

  begun : (t : Token) (S : List ParserFrame) (ts : List Token) (r : Strategy) → length ts ≤ n → Goes (begin S t) ts r
      → FoundPrefix S (t ∷ ts) r
  begun (ASign s) S ts r le k = sign_found s S ts r le k
  begun (Reserved w) S ts r le k = word_found w S ts r le k
  begun (Ident f) S ts r le k = used_found f S ts r le k
  begun (Integer z) S ts r le k = number_found z S ts r le k
  begun Wildcard S ts r le k = absurd (cc)
  begun (Text f) S ts r le k = absurd (cc)
  begun Bad S ts r le k = absurd (cc)

pub prefix_found : (n : ℕ) → PrefixesTo n
prefix_found n S [] r le k = absurd (cc)
prefix_found zero S (t ∷ ts) r le k = absurd (omega arith)
prefix_found (suc n) S (t ∷ ts) r le k = begun n (prefix_found n) t S ts r (omega arith) k

-- a choice before what the open forms accept
pub choice_at : (S : List ParserFrame) (x : List Token) (r : Strategy) → Bare S → Accepts (begin S) x r
    → FoundChoice S x r
choice_at S x r bare k =
    choice_found (length x) (prefix_found (length x)) (length x) (omega arith) S x r bare (omega arith) k

ended : (s : Strategy) (y : List Token) (r : Strategy) → Accepts (after_choice s []) y r → (y ≡ []) × (s ≡ r)
ended s [] r k = (refl, (cc))
ended s (t ∷ ts) r k = absurd (cc)

-- the whole text
pub read_all : (x : List Token) (r : Strategy) → Accepts (begin []) x r
    → (a : Choice) × ReadsChoice a x [] × (core Run a ≡ r)
read_all x r k =
    let a : FoundChoice [] x r = choice_at [] x r (λ s t. refl) k in
    let end = ended (core Run a.choice) a.rest r a.accepts in
    (a.choice, subst (λ l. ReadsChoice a.choice x l) end.0 a.reads, end.1)
