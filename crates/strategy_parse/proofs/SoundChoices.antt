-- If the grammar reads each form that the machine reads, so it does choices and lists of choices.
use Rattle.std.proofs.Common.{◌≡◌, ℕ, zero, suc, refl, sym, ap, subst, inl, inr, List, [], ◌∷◌, ◌++◌, length, ◌≤◌, ◌<◌, arith, append_assoc, append-nil}
use Rattle.std.specs.Prelude.{if◌then◌else◌}
use Rattle.strategy_syntax.specs.Syntax as syntax
use Rattle.strategy_syntax.specs.Syntax.{Strategy, strategy_list}
use Rattle.strategy_tokens.specs.declared.token.Token.{Token}
use Rattle.strategy_tokens.specs.declared.token.Token.TheVariants.{Sign as ASign}
use Rattle.strategy_tokens.specs.declared.token.Sign.TheVariants.{Comma, Semicolon, Bar, Less, LeftChoice, Plus}
use Rattle.strategy_parse.specs.declared.parser.state.ParserState.TheVariants.{Strategy as ToStrategy, Read}
use Rattle.strategy_parse.specs.declared.parser.state.ParserFrame.{ParserFrame}
use Rattle.strategy_parse.specs.declared.parser.state.ParserFrame.TheVariants.{Operand, Strategy as ForStrategy}
use Rattle.strategy_parse.specs.declared.parser.state.Infix.TheVariants.{Before, Guarded, Otherwise}
use Rattle.strategy_parse.specs.declared.parser.state.StrategyFrame.{StrategyFrame}
use Rattle.strategy_parse.specs.declared.parser.state.StrategyFrame.TheVariants.{List as Strategies}
use Rattle.strategy_parse.specs.declared.parser.state.StrategyGroup.{StrategyGroup}
use Rattle.strategy_tokens.specs.Marks.{is_mark}
use Rattle.strategy_parse.specs.inside.Parser.{order_of, goes, begin, after, after_arrow, after_seq, after_choice, after_element, after_bar, close_strategies, closing, grouped, first_strategy, empty_bar}
use Rattle.strategy_parse.specs.Written.{sequence, left_choice, guarded_choice, last, before, arrow, no_choices, and_choice}
use Rattle.strategy_parse.specs.Core.{then_matched, core, core_seq, core_prefix, core_all}
use Rattle.strategy_parse.proofs.Runs.{Accepts, Goes, at_mark, only_mark}
use Rattle.strategy_parse.proofs.CompleteStrategies.{Bare, same_accepts}
use Rattle.strategy_parse.proofs.SoundParts.{FoundPrefix, FoundArrows, FoundSeq, FoundChoice, MoreOf, ListOf, PrefixesTo, arrows_found}

module _ (n : ℕ) (P : PrefixesTo n) where
  seq_found : (m : ℕ) → m ≤ n → (S : List ParserFrame) (x : List Token) (r : Strategy)
      → length x ≤ m → Accepts (begin S) x r → FoundSeq S x r
  seq_found zero le S x r lx k = let found : FoundPrefix S x r = P S x r (omega arith) k in
      let lt : length found.rest < length x = found.shorter in absurd (omega arith)
  seq_found (suc m) le S x r lx k =
      let found : FoundPrefix S x r = P S x r (omega arith) k in
      let lt : length found.rest < length x = found.shorter in
      let arrows : FoundArrows (core_prefix (order_of S) found.prefix) S found.rest r = arrows_found (length found.rest)
      (core_prefix (order_of S) found.prefix) S found.rest r (omega arith) found.accepts in
      let la : length arrows.rest ≤ length found.rest = arrows.shorter in
      elim (at_mark Semicolon
      (goes ToStrategy (Operand Before (then_matched (core_prefix (order_of S) found.prefix) arrows.patterns) ∷ S))
      (after_arrow (then_matched (core_prefix (order_of S) found.prefix) arrows.patterns) S) arrows.rest r
      arrows.accepts) [
        | inl next ↦
            let l : length arrows.rest ≡ suc (length next.0) = ap length next.1 in
            let more : FoundSeq
            (Operand Before (then_matched (core_prefix (order_of S) found.prefix) arrows.patterns) ∷ S) next.0 r =
            seq_found m (omega arith)
            (Operand Before (then_matched (core_prefix (order_of S) found.prefix) arrows.patterns) ∷ S) next.0 r
            (omega arith) next.2 in
            let lm : length more.rest < length next.0 = more.shorter in
            record {
              seq = before (arrow found.prefix arrows.patterns) more.seq;
              rest = more.rest;
              reads = (arrows.rest, (found.rest, found.reads, arrows.reads), (next.0, next.1, more.reads));
              accepts = more.accepts;
              shorter = omega arith;
            }
        | inr other ↦ record {
          seq = last (arrow found.prefix arrows.patterns);
          rest = arrows.rest;
          reads = (found.rest, found.reads, arrows.reads);
          accepts = other;
          shorter = omega arith;
        }
      ]

  pub choice_found : (m : ℕ) → m ≤ n → (S : List ParserFrame) (x : List Token) (r : Strategy) → Bare S
      → length x ≤ m → Accepts (begin S) x r → FoundChoice S x r
  choice_found zero le S x r bare lx k = let found : FoundSeq S x r = seq_found zero le S x r lx k in
      let lt : length found.rest < length x = found.shorter in absurd (omega arith)
  choice_found (suc m) le S x r bare lx k =
      let a : FoundSeq S x r = seq_found (suc m) le S x r lx k in
      let la : length a.rest < length x = a.shorter in
      elim (at_mark LeftChoice
      (goes ToStrategy (Operand Otherwise syntax.id ∷ (Operand Guarded (core_seq (order_of S) a.seq) ∷ S)))
      (λ t. if (is_mark Less t) then goes ToStrategy (Operand Guarded (core_seq (order_of S) a.seq) ∷ S) else
      after_choice (core_seq (order_of S) a.seq) S t) a.rest r
      (same_accepts (after_seq (core_seq (order_of S) a.seq) S) (after_arrow (core_seq (order_of S) a.seq) S) a.rest r
      (λ t. sym (bare (core_seq (order_of S) a.seq) t)) a.accepts)) [
        | inl next ↦
            let l : length a.rest ≡ suc (length next.0) = ap length next.1 in
            let b : FoundChoice
            (Operand Otherwise syntax.id ∷ (Operand Guarded (core_seq (order_of S) a.seq) ∷ S)) next.0 r = choice_found
            m (omega arith) (Operand Otherwise syntax.id ∷ (Operand Guarded (core_seq (order_of S) a.seq) ∷ S)) next.0 r
            (λ s t. refl) (omega arith) next.2 in
            let lb : length b.rest < length next.0 = b.shorter in
            record {
              choice = left_choice a.seq b.choice;
              rest = b.rest;
              reads = (a.rest, a.reads, (next.0, next.1, b.reads));
              accepts = b.accepts;
              shorter = omega arith;
            }
        | inr other ↦ elim (at_mark Less (goes ToStrategy (Operand Guarded (core_seq (order_of S) a.seq) ∷ S))
            (after_choice (core_seq (order_of S) a.seq) S) a.rest r other) [
              | inl next ↦
                  let l : length a.rest ≡ suc (length next.0) = ap length next.1 in
                  let b : FoundSeq (Operand Guarded (core_seq (order_of S) a.seq) ∷ S) next.0 r =
                  seq_found m (omega arith)
                  (Operand Guarded (core_seq (order_of S) a.seq) ∷ S) next.0 r (omega arith) next.2 in
                  let lb : length b.rest < length next.0 = b.shorter in
                  let plus = only_mark Plus (goes ToStrategy (Operand Otherwise (core_seq (order_of S) b.seq)
                  ∷ (Operand Guarded (core_seq (order_of S) a.seq) ∷ S))) b.rest r b.accepts in
                  let lp : length b.rest ≡ suc (length plus.0) = ap length plus.1 in
                  let c : FoundChoice (Operand Otherwise (core_seq (order_of S) b.seq)
                  ∷ (Operand Guarded (core_seq (order_of S) a.seq) ∷ S)) plus.0 r = choice_found m (omega arith)
                  (Operand Otherwise (core_seq (order_of S) b.seq)
                  ∷ (Operand Guarded (core_seq (order_of S) a.seq) ∷ S)) plus.0 r (λ s t. refl) (omega arith) plus.2 in
                  let lc : length c.rest < length plus.0 = c.shorter in
                  record {
                    choice = guarded_choice a.seq b.seq c.choice;
                    rest = c.rest;
                    reads = (a.rest, a.reads, (next.0, next.1, (b.rest, b.reads, (plus.0, plus.1, c.reads))));
                    accepts = c.accepts;
                    shorter = omega arith;
                  }
              | inr alone ↦
                  record { choice = sequence a.seq; rest = a.rest; reads = a.reads; accepts = alone; shorter = la }
            ]
      ]

  -- a strategy in an open form
  pub framed : (F : StrategyFrame) (S : List ParserFrame) (x : List Token) (r : Strategy)
      → length x ≤ n → Accepts (begin (ForStrategy F ∷ S)) x r → FoundChoice (ForStrategy F ∷ S) x r
  framed F S x r le k = choice_found n (omega arith) (ForStrategy F ∷ S) x r (λ s t. refl) le k

  -- ---- lists

  and_more : (g : StrategyGroup) (done : List Strategy) (S : List ParserFrame) (x z : List Token) (r : Strategy)
      → x ≡ ASign Comma ∷ z → (a : FoundChoice (ForStrategy (Strategies g done) ∷ S) z r)
      → MoreOf g (done ++ core (order_of S) a.choice ∷ []) S a.rest r → MoreOf g done S x r
  and_more g done S x z r e a (inl more) =
      let l : length x ≡ suc (length z) = ap length e in
      let la : length a.rest < length z = a.shorter in
      let lm : length more.rest < length a.rest = more.shorter in
      inl (record {
        choices = and_choice a.choice more.choices;
        rest = more.rest;
        reads = (z, e, (a.rest, a.reads, more.reads));
        accepts = subst (λ l. Accepts (after (grouped g l) S) more.rest r)
            (append_assoc done (core (order_of S) a.choice ∷ []) (strategy_list (core_all (order_of S) more.choices)))
            more.accepts;
        shorter = omega arith;
      })
  and_more g done S x z r e a (inr more) =
      let l : length x ≡ suc (length z) = ap length e in
      let la : length a.rest < length z = a.shorter in
      let lm : length more.rest < length a.rest = more.shorter in
      inr (record {
        choices = and_choice a.choice more.choices;
        rest = more.rest;
        reads = (z, e, (a.rest, a.reads, more.reads));
        goes_on = subst (λ l. Goes (after_bar g l S) more.rest r)
            (append_assoc done (core (order_of S) a.choice ∷ []) (strategy_list (core_all (order_of S) more.choices)))
            more.goes_on;
        shorter = omega arith;
      })

  more_ends : (g : StrategyGroup) (done : List Strategy) (S : List ParserFrame) (x : List Token) (r : Strategy)
      → Accepts (λ t. if (is_mark Bar t) then after_bar g done S else close_strategies g done S t) x r
      → MoreOf g done S x r
  more_ends g done S x r k = elim (at_mark Bar (after_bar g done S) (close_strategies g done S) x r k) [
    | inl bar ↦
        let l : length x ≡ suc (length bar.0) = ap length bar.1 in
        inr (record {
          choices = no_choices;
          rest = bar.0;
          reads = bar.1;
          goes_on = subst (λ l. Goes (after_bar g l S) bar.0 r) (sym (append-nil done)) bar.2;
          shorter = omega arith;
        })
    | inr other ↦
        let end = only_mark (closing g) (goes (Read (grouped g done)) S) x r other in
        let l : length x ≡ suc (length end.0) = ap length end.1 in
        inl (record {
          choices = no_choices;
          rest = end.0;
          reads = end.1;
          accepts = subst (λ l. Accepts (after (grouped g l) S) end.0 r) (sym (append-nil done)) end.2;
          shorter = omega arith;
        })
  ]

  more_found_in : (m : ℕ) → m ≤ n → (g : StrategyGroup) (done : List Strategy) (S : List ParserFrame) (x : List Token)
      (r : Strategy) → length x ≤ m → Accepts (after_element g done S) x r → MoreOf g done S x r
  more_found_in zero le g done S x r lx k = elim (at_mark Comma (goes ToStrategy (ForStrategy (Strategies g done) ∷ S))
      (λ t. if (is_mark Bar t) then after_bar g done S else close_strategies g done S t) x r k) [
        | inl next ↦ let l : length x ≡ suc (length next.0) = ap length next.1 in absurd (omega arith)
        | inr other ↦ more_ends g done S x r other
      ]
  more_found_in (suc m) le g done S x r lx k =
      elim (at_mark Comma (goes ToStrategy (ForStrategy (Strategies g done) ∷ S))
      (λ t. if (is_mark Bar t) then after_bar g done S else close_strategies g done S t) x r k) [
        | inl next ↦
            let l : length x ≡ suc (length next.0) = ap length next.1 in
            let a : FoundChoice (ForStrategy (Strategies g done) ∷ S) next.0 r =
            framed (Strategies g done) S next.0 r (omega arith) next.2 in
            let la : length a.rest < length next.0 = a.shorter in
            and_more g done S x next.0 r next.1 a
            (more_found_in m (omega arith) g (done ++ core (order_of S) a.choice ∷ []) S a.rest r (omega arith)
            a.accepts)
        | inr other ↦ more_ends g done S x r other
      ]

  first_more : (g : StrategyGroup) (S : List ParserFrame) (x : List Token) (r : Strategy)
      → (a : FoundChoice (ForStrategy (Strategies g []) ∷ S) x r)
      → MoreOf g (core (order_of S) a.choice ∷ []) S a.rest r → ListOf g S x r
  first_more g S x r a (inl more) =
      let la : length a.rest < length x = a.shorter in
      let lm : length more.rest < length a.rest = more.shorter in
      inl (record {
        choices = and_choice a.choice more.choices;
        rest = more.rest;
        reads = (a.rest, a.reads, more.reads);
        accepts = more.accepts;
        shorter = omega arith;
      })
  first_more g S x r a (inr more) =
      let la : length a.rest < length x = a.shorter in
      let lm : length more.rest < length a.rest = more.shorter in
      inr (inl (record {
        first = a.choice;
        choices = more.choices;
        rest = more.rest;
        reads = (a.rest, a.reads, more.reads);
        goes_on = more.goes_on;
        shorter = omega arith;
      }))

  pub list_of : (g : StrategyGroup) (S : List ParserFrame) (x : List Token) (r : Strategy)
      → length x ≤ n → Accepts (first_strategy g S) x r → ListOf g S x r
  list_of g S x r le k = elim (at_mark (closing g) (goes (Read (grouped g [])) S)
      (λ t. if (is_mark Bar t) then empty_bar g S else begin (ForStrategy (Strategies g []) ∷ S) t) x r k) [
        | inl end ↦
            let l : length x ≡ suc (length end.0) = ap length end.1 in
            inl (record { choices = no_choices; rest = end.0; reads = end.1; accepts = end.2; shorter = omega arith })
        | inr other ↦ elim (at_mark Bar (empty_bar g S) (begin (ForStrategy (Strategies g []) ∷ S)) x r other) [
          | inl bar ↦
              let l : length x ≡ suc (length bar.0) = ap length bar.1 in
              inr (inr (record { rest = bar.0; reads = bar.1; goes_on = bar.2; shorter = omega arith }))
          | inr first ↦
              let a : FoundChoice (ForStrategy (Strategies g []) ∷ S) x r = framed (Strategies g []) S x r le first in
              let la : length a.rest < length x = a.shorter in
              first_more g S x r a
              (more_found_in n (omega arith) g (core (order_of S) a.choice ∷ []) S a.rest r (omega arith) a.accepts)
        ]
      ]
