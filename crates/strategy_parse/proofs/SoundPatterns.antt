-- What the machine reads as a pattern, the grammar reads.
use Rattle.std.proofs.Common.{◌≡◌, ℕ, zero, suc, refl, sym, ap, subst, inl, inr, List, [], ◌∷◌, ◌++◌, length, ◌≤◌, ◌<◌, arith, append_assoc, append-nil}
use Rattle.std.specs.Prelude.{if◌then◌else◌, ◌⊎◌}
use Rattle.term_core.specs.Tree.{Symbol, application as applied, list, tuple}
use Rattle.strategy_syntax.specs.Syntax as syntax
use Rattle.strategy_syntax.specs.Syntax.{Pattern, wildcard, variable, at, number, compound, with_tail, annotated, no_patterns, and_pattern, pattern_list, patterns_of, Strategy}
use Rattle.strategy_tokens.specs.declared.token.Token.{Token}
use Rattle.strategy_tokens.specs.declared.token.Token.TheVariants.{Ident, Wildcard, Reserved, Integer, Text, Sign as ASign, Bad}
use Rattle.strategy_tokens.specs.declared.token.Sign.{Sign}
use Rattle.strategy_tokens.specs.declared.token.Sign.TheVariants.{OpenRound, OpenSquare, CloseSquare, OpenCurly, Comma, Bar, At as AtSign}
use Rattle.strategy_parse.specs.declared.parser.state.ParserState.TheVariants.{Pattern as ToPattern, FirstPattern, Named, Base}
use Rattle.strategy_parse.specs.declared.parser.state.ParserFrame.{ParserFrame}
use Rattle.strategy_parse.specs.declared.parser.state.ParserFrame.TheVariants.{At, Pattern as ForPattern}
use Rattle.strategy_parse.specs.declared.parser.state.PatternFrame.TheVariants.{List as Patterns, Tail as PatternTail}
use Rattle.strategy_parse.specs.declared.parser.state.PatternGroup.{PatternGroup}
use Rattle.strategy_parse.specs.declared.parser.state.PatternGroup.TheVariants.{Application as PApplication, List as PList, Tuple as PTuple, Annotations, Terms, Prim}
use Rattle.strategy_tokens.specs.Marks.{is_mark}
use Rattle.strategy_parse.specs.inside.Parser.{Next, goes, stuck, begin_pattern, open_pattern, after_pattern, after_base, after_one, pattern_bar, closing_sign, close_patterns, first_pattern, step}
use Rattle.strategy_parse.specs.Grammar.{IsBase, ReadsPattern, ReadsPatterns, ReadsSomePatterns, ReadsMorePatterns}
use Rattle.strategy_parse.proofs.Runs.{Accepts, Goes, at_mark, only_mark}
use Rattle.strategy_parse.proofs.CompletePatterns.{patterns_of-list}

-- a pattern at the start of x, if the rest is accepted after it
pub record FoundPattern (S : List ParserFrame) (x : List Token) (r : Strategy) : Type 0 where
  pub pattern : Pattern
  pub rest : List Token
  pub reads : ReadsPattern pattern x rest
  pub accepts : Accepts (after_pattern pattern S) rest r
  pub shorter : length rest < length x

-- patterns at the start of x, up to the sign that closes their list
pub record FoundList (g : PatternGroup) (S : List ParserFrame) (x : List Token) (r : Strategy) : Type 0 where
  pub patterns : syntax.Patterns
  pub rest : List Token
  pub reads : ReadsPatterns patterns (closing_sign g) x rest
  pub accepts : Accepts (step (close_patterns g (pattern_list patterns)) S) rest r
  pub shorter : length rest < length x

-- the further patterns
pub record FoundMore (g : PatternGroup) (done : List Pattern) (S : List ParserFrame) (x : List Token)
    (r : Strategy) : Type 0 where
  pub patterns : syntax.Patterns
  pub rest : List Token
  pub reads : ReadsMorePatterns patterns (closing_sign g) x rest
  pub accepts : Accepts (step (close_patterns g (done ++ pattern_list patterns)) S) rest r
  pub shorter : length rest < length x

-- the patterns of a list up to a `|`, and the pattern after it
pub record FoundTail (S : List ParserFrame) (x : List Token) (r : Strategy) : Type 0 where
  pub patterns : syntax.Patterns
  pub last : Pattern
  pub bar : List Token
  pub square : List Token
  pub rest : List Token
  pub reads : ReadsSomePatterns patterns Bar x bar
  pub reads_last : ReadsPattern last bar square
  pub closes : square ≡ ASign CloseSquare ∷ rest
  pub accepts : Accepts (after_base (with_tail patterns last) S) rest r
  pub shorter : length rest < length x

pub record FoundBar (done : List Pattern) (S : List ParserFrame) (x : List Token) (r : Strategy) : Type 0 where
  pub patterns : syntax.Patterns
  pub last : Pattern
  pub bar : List Token
  pub square : List Token
  pub rest : List Token
  pub reads : ReadsMorePatterns patterns Bar x bar
  pub reads_last : ReadsPattern last bar square
  pub closes : square ≡ ASign CloseSquare ∷ rest
  pub accepts : Accepts (after_base (with_tail (patterns_of (done ++ pattern_list patterns)) last) S) rest r
  pub shorter : length rest < length x

-- patterns are found in up to n tokens
abbrev pub PatternsTo : ℕ → Type 0
PatternsTo n = (S : List ParserFrame) (x : List Token) (r : Strategy) → length x ≤ n → Accepts (begin_pattern S) x r
    → FoundPattern S x r

abbrev Closing : PatternGroup → List Pattern → List ParserFrame → Token → Next
Closing g done S t = if (is_mark (closing_sign g) t) then goes (close_patterns g done) S else if (is_mark Bar t) then
    pattern_bar g done S else stuck

abbrev pub More : PatternGroup → List Pattern → List ParserFrame → List Token → Strategy → Type 0
More g done S x r = FoundMore g done S x r ⊎ ((g ≡ PList) × FoundBar done S x r)

abbrev pub Listed : PatternGroup → List ParserFrame → List Token → Strategy → Type 0
Listed g S x r = FoundList g S x r ⊎ ((g ≡ PList) × FoundTail S x r)

module _ (n : ℕ) (P : PatternsTo n) where
  -- a `|` after the patterns of a list
  bar_found : (g : PatternGroup) (done : List Pattern) (S : List ParserFrame) (x z : List Token) (r : Strategy)
      → x ≡ ASign Bar ∷ z → length x ≤ n → Goes (pattern_bar g done S) z r → (g ≡ PList) × FoundBar done S x r
  bar_found PList done S x z r e le k =
      let l : length x ≡ suc (length z) = ap length e in
      let found : FoundPattern (ForPattern (PatternTail done) ∷ S) z r =
      P (ForPattern (PatternTail done) ∷ S) z r (omega arith) k in
      let end =
      only_mark CloseSquare (goes (Base (with_tail (patterns_of done) found.pattern)) S) found.rest r found.accepts in
      let m : length found.rest ≡ suc (length end.0) = ap length end.1 in
      let s : length found.rest < length z = found.shorter in (
        refl,
        record {
          patterns = no_patterns;
          last = found.pattern;
          bar = z;
          square = found.rest;
          rest = end.0;
          reads = e;
          reads_last = found.reads;
          closes = end.1;
          accepts = subst (λ l. Accepts (after_base (with_tail (patterns_of l) found.pattern) S) end.0 r)
              (sym (append-nil done)) end.2;
          shorter = omega arith;
        },
      )
  bar_found (PApplication f) done S x z r e le k = absurd (cc)
  bar_found PTuple done S x z r e le k = absurd (cc)
  bar_found (Annotations p) done S x z r e le k = absurd (cc)
  bar_found (Terms f ss) done S x z r e le k = absurd (cc)
  bar_found (Prim f) done S x z r e le k = absurd (cc)

  and_more : (g : PatternGroup) (done : List Pattern) (S : List ParserFrame) (x z : List Token) (r : Strategy)
      → x ≡ ASign Comma ∷ z → (found : FoundPattern (ForPattern (Patterns g done) ∷ S) z r)
      → More g (done ++ found.pattern ∷ []) S found.rest r → More g done S x r
  and_more g done S x z r e found (inl more) =
      let l : length x ≡ suc (length z) = ap length e in
      let s : length found.rest < length z = found.shorter in
      let s' : length more.rest < length found.rest = more.shorter in
      inl (record {
        patterns = and_pattern found.pattern more.patterns;
        rest = more.rest;
        reads = (z, e, (found.rest, found.reads, more.reads));
        accepts = subst (λ l. Accepts (step (close_patterns g l) S) more.rest r)
            (append_assoc done (found.pattern ∷ []) (pattern_list more.patterns)) more.accepts;
        shorter = omega arith;
      })
  and_more g done S x z r e found (inr (same, more)) =
      let l : length x ≡ suc (length z) = ap length e in
      let s : length found.rest < length z = found.shorter in
      let s' : length more.rest < length found.rest = more.shorter in
      inr (
        same,
        record {
          patterns = and_pattern found.pattern more.patterns;
          last = more.last;
          bar = more.bar;
          square = more.square;
          rest = more.rest;
          reads = (z, e, (found.rest, found.reads, more.reads));
          reads_last = more.reads_last;
          closes = more.closes;
          accepts = subst (λ l. Accepts (after_base (with_tail (patterns_of l) more.last) S) more.rest r)
              (append_assoc done (found.pattern ∷ []) (pattern_list more.patterns)) more.accepts;
          shorter = omega arith;
        },
      )

  more_ends : (g : PatternGroup) (done : List Pattern) (S : List ParserFrame) (x : List Token) (r : Strategy)
      → length x ≤ n → Accepts (Closing g done S) x r → More g done S x r
  more_ends g done S x r le k = elim (at_mark (closing_sign g) (goes (close_patterns g done) S)
      (λ t. if (is_mark Bar t) then pattern_bar g done S else stuck) x r k) [
        | inl end ↦
            let l : length x ≡ suc (length end.0) = ap length end.1 in
            inl (record {
              patterns = no_patterns;
              rest = end.0;
              reads = end.1;
              accepts = subst (λ l. Accepts (step (close_patterns g l) S) end.0 r) (sym (append-nil done)) end.2;
              shorter = omega arith;
            })
        | inr other ↦ let bar = only_mark Bar (pattern_bar g done S) x r other in
            inr (bar_found g done S x bar.0 r bar.1 le bar.2)
      ]

  -- after one pattern of a list
  pub more_found : (m : ℕ) → m ≤ n → (g : PatternGroup) (done : List Pattern) (S : List ParserFrame) (x : List Token)
      (r : Strategy) → length x ≤ m → Accepts (after_one g done S) x r → More g done S x r
  more_found zero le g done S x r lx k =
      elim (at_mark Comma (goes ToPattern (ForPattern (Patterns g done) ∷ S)) (Closing g done S) x r k) [
        | inl next ↦ let l : length x ≡ suc (length next.0) = ap length next.1 in absurd (omega arith)
        | inr other ↦ more_ends g done S x r (omega arith) other
      ]
  more_found (suc m) le g done S x r lx k =
      elim (at_mark Comma (goes ToPattern (ForPattern (Patterns g done) ∷ S)) (Closing g done S) x r k) [
        | inl next ↦
            let l : length x ≡ suc (length next.0) = ap length next.1 in
            let found : FoundPattern (ForPattern (Patterns g done) ∷ S) next.0 r =
            P (ForPattern (Patterns g done) ∷ S) next.0 r (omega arith) next.2 in
            let s : length found.rest < length next.0 = found.shorter in
            and_more g done S x next.0 r next.1 found
            (more_found m (omega arith) g (done ++ found.pattern ∷ []) S found.rest r (omega arith) found.accepts)
        | inr other ↦ more_ends g done S x r (omega arith) other
      ]

  first_more : (g : PatternGroup) (S : List ParserFrame) (x : List Token) (r : Strategy)
      → (found : FoundPattern (ForPattern (Patterns g []) ∷ S) x r) → More g (found.pattern ∷ []) S found.rest r
      → Listed g S x r
  first_more g S x r found (inl more) =
      let s : length found.rest < length x = found.shorter in
      let s' : length more.rest < length found.rest = more.shorter in
      inl (record {
        patterns = and_pattern found.pattern more.patterns;
        rest = more.rest;
        reads = (found.rest, found.reads, more.reads);
        accepts = more.accepts;
        shorter = omega arith;
      })
  first_more g S x r found (inr (same, more)) =
      let s : length found.rest < length x = found.shorter in
      let s' : length more.rest < length found.rest = more.shorter in
      inr (
        same,
        record {
          patterns = and_pattern found.pattern more.patterns;
          last = more.last;
          bar = more.bar;
          square = more.square;
          rest = more.rest;
          reads = (found.rest, found.reads, more.reads);
          reads_last = more.reads_last;
          closes = more.closes;
          accepts = subst (λ l. Accepts (after_base (with_tail (and_pattern found.pattern l) more.last) S) more.rest r)
              (patterns_of-list more.patterns) more.accepts;
          shorter = omega arith;
        },
      )

  -- after the sign that opens a list
  pub list_found : (g : PatternGroup) (S : List ParserFrame) (x : List Token) (r : Strategy)
      → length x ≤ n → Accepts (first_pattern g S) x r → Listed g S x r
  list_found g S x r le k = elim (at_mark (closing_sign g) (goes (close_patterns g []) S)
      (begin_pattern (ForPattern (Patterns g []) ∷ S)) x r k) [
        | inl end ↦
            let l : length x ≡ suc (length end.0) = ap length end.1 in
            inl (record { patterns = no_patterns; rest = end.0; reads = end.1; accepts = end.2; shorter = omega arith })
        | inr other ↦
            let found : FoundPattern (ForPattern (Patterns g []) ∷ S) x r =
            P (ForPattern (Patterns g []) ∷ S) x r le other in
            let s : length found.rest < length x = found.shorter in
            first_more g S x r found
            (more_found n (omega arith) g (found.pattern ∷ []) S found.rest r (omega arith) found.accepts)
      ]

  -- ---- a base, and its annotations

  annotated_found : (p : Pattern) (S : List ParserFrame) (x y z : List Token) (r : Strategy) → IsBase p → ReadsPattern p
      x y → y ≡ ASign OpenCurly ∷ z → length y < length x → Listed (Annotations p) S z r → FoundPattern S x r
  annotated_found p S x y z r base reads e le (inl found) =
      let l : length y ≡ suc (length z) = ap length e in
      let s : length found.rest < length z = found.shorter in
      record {
        pattern = annotated p found.patterns;
        rest = found.rest;
        reads = (base, (y, reads, (z, e, found.reads)));
        accepts = subst (λ l. Accepts (after_pattern (annotated p l) S) found.rest r) (patterns_of-list found.patterns)
            found.accepts;
        shorter = omega arith;
      }
  annotated_found p S x y z r base reads e le (inr (same, found)) = absurd (cc)

  pub based : (p : Pattern) (S : List ParserFrame) (x y : List Token) (r : Strategy) → IsBase p → ReadsPattern p x y
      → length y ≤ n → length y < length x → Accepts (after_base p S) y r → FoundPattern S x r
  based p S x y r base reads ly lt k =
      elim (at_mark OpenCurly (goes (FirstPattern (Annotations p)) S) (after_pattern p S) y r k) [
        | inl opened ↦
            let l : length y ≡ suc (length opened.0) = ap length opened.1 in
            annotated_found p S x y opened.0 r base reads opened.1 lt
            (list_found (Annotations p) S opened.0 r (omega arith) opened.2)
        | inr other ↦ record { pattern = p; rest = y; reads = reads; accepts = other; shorter = lt }
      ]

  -- ---- what a token begins

  application_found : (f : Symbol) (S : List ParserFrame) (ts z : List Token) (r : Strategy)
      → ts ≡ ASign OpenRound ∷ z → length ts ≤ n → Listed (PApplication f) S z r → FoundPattern S (Ident f ∷ ts) r
  application_found f S ts z r e le (inl found) =
      let l : length ts ≡ suc (length z) = ap length e in
      let s : length found.rest < length z = found.shorter in
      based (compound (applied f) found.patterns) S (Ident f ∷ ts) found.rest r tt (inr (ts, refl, (z, e, found.reads)))
      (omega arith) (omega arith)
      (subst (λ l. Accepts (after_base (compound (applied f) l) S) found.rest r) (patterns_of-list found.patterns)
      found.accepts)
  application_found f S ts z r e le (inr (same, found)) = absurd (cc)

  named_found : (f : Symbol) (S : List ParserFrame) (ts : List Token) (r : Strategy)
      → length ts ≤ n → Accepts (step (Named f) S) ts r → FoundPattern S (Ident f ∷ ts) r
  named_found f S ts r le k = elim (at_mark OpenRound (goes (FirstPattern (PApplication f)) S)
      (λ t. if (is_mark AtSign t) then goes ToPattern (At f ∷ S) else after_base (variable f) S t) ts r k) [
        | inl opened ↦
            let l : length ts ≡ suc (length opened.0) = ap length opened.1 in
            application_found f S ts opened.0 r opened.1 le
            (list_found (PApplication f) S opened.0 r (omega arith) opened.2)
        | inr other ↦ elim (at_mark AtSign (goes ToPattern (At f ∷ S)) (after_base (variable f) S) ts r other) [
          | inl found_at ↦
              let l : length ts ≡ suc (length found_at.0) = ap length found_at.1 in
              let found : FoundPattern (At f ∷ S) found_at.0 r = P (At f ∷ S) found_at.0 r (omega arith) found_at.2 in
              let s : length found.rest < length found_at.0 = found.shorter in
              record {
                pattern = at f found.pattern;
                rest = found.rest;
                reads = (ts, refl, (found_at.0, found_at.1, found.reads));
                accepts = found.accepts;
                shorter = omega arith;
              }
          | inr alone ↦ based (variable f) S (Ident f ∷ ts) ts r tt refl le (omega arith) alone
        ]
      ]

  square_found : (S : List ParserFrame) (ts : List Token) (r : Strategy) → length ts ≤ n → Listed PList S ts r
      → FoundPattern S (ASign OpenSquare ∷ ts) r
  square_found S ts r le (inl found) =
      let s : length found.rest < length ts = found.shorter in
      based (compound list found.patterns) S (ASign OpenSquare ∷ ts) found.rest r tt (ts, refl, found.reads)
      (omega arith) (omega arith)
      (subst (λ l. Accepts (after_base (compound list l) S) found.rest r) (patterns_of-list found.patterns)
      found.accepts)
  square_found S ts r le (inr (same, found)) =
      let s : length found.rest < length ts = found.shorter in
      based (with_tail found.patterns found.last) S (ASign OpenSquare ∷ ts) found.rest r tt
      (ts, refl, (found.bar, found.reads, (found.square, found.reads_last, found.closes))) (omega arith) (omega arith)
      found.accepts

  round_found : (S : List ParserFrame) (ts : List Token) (r : Strategy) → length ts ≤ n → Listed PTuple S ts r
      → FoundPattern S (ASign OpenRound ∷ ts) r
  round_found S ts r le (inl found) =
      let s : length found.rest < length ts = found.shorter in
      based (compound tuple found.patterns) S (ASign OpenRound ∷ ts) found.rest r tt (ts, refl, found.reads)
      (omega arith) (omega arith)
      (subst (λ l. Accepts (after_base (compound tuple l) S) found.rest r) (patterns_of-list found.patterns)
      found.accepts)
  round_found S ts r le (inr (same, found)) = absurd (cc)

  sign_found : (s : Sign) (S : List ParserFrame) (ts : List Token) (r : Strategy)
      → length ts ≤ n → Goes (open_pattern S s) ts r → FoundPattern S (ASign s ∷ ts) r
  sign_found OpenSquare S ts r le k = square_found S ts r le (list_found PList S ts r le k)
  sign_found OpenRound S ts r le k = round_found S ts r le (list_found PTuple S ts r le k)
  sign_found s S ts r le k = absurd (cc)

  begun : (t : Token) (S : List ParserFrame) (ts : List Token) (r : Strategy)
      → length ts ≤ n → Goes (begin_pattern S t) ts r → FoundPattern S (t ∷ ts) r
  begun Wildcard S ts r le k = based wildcard S (Wildcard ∷ ts) ts r tt refl le (omega arith) k
  begun (Ident f) S ts r le k = named_found f S ts r le k
  begun (Integer z) S ts r le k = based (number z) S (Integer z ∷ ts) ts r tt refl le (omega arith) k
  begun (Text f) S ts r le k =
      based (compound (applied f) no_patterns) S (Text f ∷ ts) ts r tt (inl (refl, refl)) le (omega arith) k
  begun (ASign s) S ts r le k = sign_found s S ts r le k
  begun (Reserved w) S ts r le k = absurd (cc)
  begun Bad S ts r le k = absurd (cc)

pub pattern_found : (n : ℕ) → PatternsTo n
pattern_found n S [] r le k = absurd (cc)
pattern_found zero S (t ∷ ts) r le k = absurd (omega arith)
pattern_found (suc n) S (t ∷ ts) r le k = begun n (pattern_found n) t S ts r (omega arith) k
