-- What the machine reads before what the open forms accept: patterns, names, and prefixes.
use Rattle.std.proofs.Common.{◌≡◌, ℕ, zero, suc, refl, sym, ap, subst, inl, inr, List, [], ◌∷◌, ◌++◌, length, ◌≤◌, ◌<◌, arith, append_assoc, append-nil}
use Rattle.std.specs.Prelude.{if◌then◌else◌, ◌⊎◌}
use Rattle.term_core.specs.Tree.{Symbol}
use Rattle.strategy_syntax.specs.Syntax as syntax
use Rattle.strategy_syntax.specs.Syntax.{no_patterns, and_pattern, Strategy, strategy_list}
use Rattle.strategy_tokens.specs.declared.token.Token.{Token}
use Rattle.strategy_tokens.specs.declared.token.Token.TheVariants.{Ident, Wildcard, Reserved, Integer, Text, Sign as ASign, Bad}
use Rattle.strategy_tokens.specs.declared.token.Sign.TheVariants.{OpenRound, Comma, Semicolon, Colon, Bar, FatArrow}
use Rattle.strategy_parse.specs.declared.parser.state.ParserState.TheVariants.{Strategy as ToStrategy, ScopeOpen, ScopeComma, ScopeNamed, Pattern as ToPattern}
use Rattle.strategy_parse.specs.declared.parser.state.ParserFrame.{ParserFrame}
use Rattle.strategy_parse.specs.declared.parser.state.ParserFrame.TheVariants.{Operand, Strategy as ForStrategy, Pattern as ForPattern}
use Rattle.strategy_parse.specs.declared.parser.state.Infix.TheVariants.{Before}
use Rattle.strategy_parse.specs.declared.parser.state.StrategyFrame.{StrategyFrame}
use Rattle.strategy_parse.specs.declared.parser.state.StrategyFrame.TheVariants.{Scope}
use Rattle.strategy_parse.specs.declared.parser.state.PatternFrame.TheVariants.{Matched}
use Rattle.strategy_parse.specs.declared.parser.state.StrategyGroup.{StrategyGroup}
use Rattle.strategy_tokens.specs.Marks.{is_mark}
use Rattle.strategy_parse.specs.inside.Parser.{order_of, Next, goes, stuck, begin, begin_pattern, after, after_arrow, after_choice, in_frame, after_bar, closing, grouped, empty_bar, scope_name, step}
use Rattle.strategy_parse.specs.Grammar.{ReadsArrows, ReadsMoreNames, ReadsNames, ReadsChoice, ReadsSeq, ReadsPrefix, ReadsChoices, ReadsSomeChoices, ReadsMoreChoices}
use Rattle.strategy_parse.specs.Written.{Choice, Seq, Prefix, Choices, and_choice}
use Rattle.strategy_parse.specs.Core.{then_matched, core, core_seq, core_prefix, core_all}
use Rattle.strategy_parse.proofs.Runs.{Accepts, Goes, at_mark, only_mark}
use Rattle.strategy_parse.proofs.SoundPatterns.{FoundPattern, pattern_found}

-- ---- a prefix at the start of x, if the rest is accepted after it

pub record FoundPrefix (S : List ParserFrame) (x : List Token) (r : Strategy) : Type 0 where
  pub prefix : Prefix
  pub rest : List Token
  pub reads : ReadsPrefix prefix x rest
  pub accepts : Accepts (after (core_prefix (order_of S) prefix) S) rest r
  pub shorter : length rest < length x

abbrev pub after_arrows : Strategy → List ParserFrame → Token → Next
after_arrows s S t = if (is_mark Semicolon t) then goes ToStrategy (Operand Before s ∷ S) else after_arrow s S t

pub record FoundArrows (s : Strategy) (S : List ParserFrame) (x : List Token) (r : Strategy) : Type 0 where
  pub patterns : syntax.Patterns
  pub rest : List Token
  pub reads : ReadsArrows patterns x rest
  pub accepts : Accepts (after_arrows (then_matched s patterns) S) rest r
  pub shorter : length rest ≤ length x

pub record FoundSeq (S : List ParserFrame) (x : List Token) (r : Strategy) : Type 0 where
  pub seq : Seq
  pub rest : List Token
  pub reads : ReadsSeq seq x rest
  pub accepts : Accepts (after_arrow (core_seq (order_of S) seq) S) rest r
  pub shorter : length rest < length x

pub record FoundChoice (S : List ParserFrame) (x : List Token) (r : Strategy) : Type 0 where
  pub choice : Choice
  pub rest : List Token
  pub reads : ReadsChoice choice x rest
  pub accepts : Accepts (after_choice (core (order_of S) choice) S) rest r
  pub shorter : length rest < length x

-- the further strategies of a list, up to the sign that closes it
pub record MoreClosed (g : StrategyGroup) (done : List Strategy) (S : List ParserFrame) (x : List Token)
    (r : Strategy) : Type 0 where
  pub choices : Choices
  pub rest : List Token
  pub reads : ReadsMoreChoices choices (closing g) x rest
  pub accepts : Accepts (after (grouped g (done ++ strategy_list (core_all (order_of S) choices))) S) rest r
  pub shorter : length rest < length x

-- ... or up to a `|`
pub record MoreBar (g : StrategyGroup) (done : List Strategy) (S : List ParserFrame) (x : List Token)
    (r : Strategy) : Type 0 where
  pub choices : Choices
  pub rest : List Token
  pub reads : ReadsMoreChoices choices Bar x rest
  pub goes_on : Goes (after_bar g (done ++ strategy_list (core_all (order_of S) choices)) S) rest r
  pub shorter : length rest < length x

abbrev pub MoreOf : StrategyGroup → List Strategy → List ParserFrame → List Token → Strategy → Type 0
MoreOf g done S x r = MoreClosed g done S x r ⊎ MoreBar g done S x r

-- after the sign that opens a list
pub record ListClosed (g : StrategyGroup) (S : List ParserFrame) (x : List Token) (r : Strategy) : Type 0 where
  pub choices : Choices
  pub rest : List Token
  pub reads : ReadsChoices choices (closing g) x rest
  pub accepts : Accepts (after (grouped g (strategy_list (core_all (order_of S) choices))) S) rest r
  pub shorter : length rest < length x

pub record ListBar (g : StrategyGroup) (S : List ParserFrame) (x : List Token) (r : Strategy) : Type 0 where
  pub first : Choice
  pub choices : Choices
  pub rest : List Token
  pub reads : ReadsSomeChoices (and_choice first choices) Bar x rest
  pub goes_on : Goes (after_bar g (core (order_of S) first ∷ strategy_list (core_all (order_of S) choices)) S) rest r
  pub shorter : length rest < length x

pub record EmptyBar (g : StrategyGroup) (S : List ParserFrame) (x : List Token) (r : Strategy) : Type 0 where
  pub rest : List Token
  pub reads : x ≡ ASign Bar ∷ rest
  pub goes_on : Goes (empty_bar g S) rest r
  pub shorter : length rest < length x

abbrev pub ListOf : StrategyGroup → List ParserFrame → List Token → Strategy → Type 0
ListOf g S x r = ListClosed g S x r ⊎ (ListBar g S x r ⊎ EmptyBar g S x r)

-- a strategy in round brackets
pub record Opened (F : StrategyFrame) (S : List ParserFrame) (x : List Token) (r : Strategy) : Type 0 where
  pub inner : List Token
  pub choice : Choice
  pub ends_at : List Token
  pub opens : x ≡ ASign OpenRound ∷ inner
  pub reads : ReadsChoice choice inner ends_at
  pub accepts : Accepts (in_frame (core (order_of S) choice) F S) ends_at r
  pub shorter : length ends_at < length x

pub record FoundNames (S : List ParserFrame) (x : List Token) (r : Strategy) : Type 0 where
  pub names : List Symbol
  pub rest : List Token
  pub reads : ReadsNames names Colon x rest
  pub accepts : Accepts (begin (ForStrategy (Scope names) ∷ S)) rest r
  pub shorter : length rest < length x

pub record FoundMoreNames (done : List Symbol) (S : List ParserFrame) (x : List Token) (r : Strategy) : Type 0 where
  pub names : List Symbol
  pub rest : List Token
  pub reads : ReadsMoreNames names Colon x rest
  pub accepts : Accepts (begin (ForStrategy (Scope (done ++ names)) ∷ S)) rest r
  pub shorter : length rest < length x

abbrev pub PrefixesTo : ℕ → Type 0
PrefixesTo n = (S : List ParserFrame) (x : List Token) (r : Strategy) → length x ≤ n → Accepts (begin S) x r
    → FoundPrefix S x r

-- ---- parts without strategies

pub pattern_at : (S : List ParserFrame) (x : List Token) (r : Strategy) → Accepts (begin_pattern S) x r
    → FoundPattern S x r
pattern_at S x r k = pattern_found (length x) S x r (omega arith) k

pub arrows_found : (m : ℕ) (s : Strategy) (S : List ParserFrame) (x : List Token) (r : Strategy)
    → length x ≤ m → Accepts (after s S) x r → FoundArrows s S x r
arrows_found zero s S x r le k =
    elim (at_mark FatArrow (goes ToPattern (ForPattern (Matched s) ∷ S)) (after_arrows s S) x r k) [
      | inl next ↦ let l : length x ≡ suc (length next.0) = ap length next.1 in absurd (omega arith)
      | inr other ↦ record { patterns = no_patterns; rest = x; reads = refl; accepts = other; shorter = omega arith }
    ]
arrows_found (suc m) s S x r le k =
    elim (at_mark FatArrow (goes ToPattern (ForPattern (Matched s) ∷ S)) (after_arrows s S) x r k) [
      | inl next ↦
          let l : length x ≡ suc (length next.0) = ap length next.1 in
          let found : FoundPattern (ForPattern (Matched s) ∷ S) next.0 r =
          pattern_at (ForPattern (Matched s) ∷ S) next.0 r next.2 in
          let lt : length found.rest < length next.0 = found.shorter in
          let more : FoundArrows (syntax.seq s (syntax.matches found.pattern)) S found.rest r =
          arrows_found m (syntax.seq s (syntax.matches found.pattern)) S found.rest r (omega arith) found.accepts in
          let lt' : length more.rest ≤ length found.rest = more.shorter in
          record {
            patterns = and_pattern found.pattern more.patterns;
            rest = more.rest;
            reads = (next.0, next.1, (found.rest, found.reads, more.reads));
            accepts = more.accepts;
            shorter = omega arith;
          }
      | inr other ↦ record { patterns = no_patterns; rest = x; reads = refl; accepts = other; shorter = omega arith }
    ]

-- a name has to come
pub record FoundName (xs : List Symbol) (S : List ParserFrame) (x : List Token) (r : Strategy) : Type 0 where
  pub name : Symbol
  pub rest : List Token
  pub reads : x ≡ Ident name ∷ rest
  pub accepts : Accepts (step (ScopeNamed (xs ++ name ∷ [])) S) rest r

pub name_found : (xs : List Symbol) (S : List ParserFrame) (x : List Token) (r : Strategy)
    → Accepts (scope_name xs S) x r → FoundName xs S x r
name_found xs S [] r k = absurd (cc)
name_found xs S (Ident f ∷ ts) r k = record { name = f; rest = ts; reads = refl; accepts = k }
name_found xs S (Wildcard ∷ ts) r k = absurd (cc)
name_found xs S (Reserved w ∷ ts) r k = absurd (cc)
name_found xs S (Integer z ∷ ts) r k = absurd (cc)
name_found xs S (Text f ∷ ts) r k = absurd (cc)
name_found xs S (ASign s ∷ ts) r k = absurd (cc)
name_found xs S (Bad ∷ ts) r k = absurd (cc)

pub more_names_found : (m : ℕ) (done : List Symbol) (S : List ParserFrame) (x : List Token) (r : Strategy)
    → length x ≤ m → Accepts (step (ScopeNamed done) S) x r → FoundMoreNames done S x r
more_names_found zero done S x r le k = elim (at_mark Colon (goes ToStrategy (ForStrategy (Scope done) ∷ S))
    (λ t. if (is_mark Comma t) then goes (ScopeComma done) S else stuck) x r k) [
      | inl end ↦ let l : length x ≡ suc (length end.0) = ap length end.1 in absurd (omega arith)
      | inr other ↦
          let next = only_mark Comma (goes (ScopeComma done) S) x r other in
          let l : length x ≡ suc (length next.0) = ap length next.1 in
          absurd (omega arith)
    ]
more_names_found (suc m) done S x r le k = elim (at_mark Colon (goes ToStrategy (ForStrategy (Scope done) ∷ S))
    (λ t. if (is_mark Comma t) then goes (ScopeComma done) S else stuck) x r k) [
      | inl end ↦
          let l : length x ≡ suc (length end.0) = ap length end.1 in
          record {
            names = [];
            rest = end.0;
            reads = end.1;
            accepts = subst (λ l. Accepts (begin (ForStrategy (Scope l) ∷ S)) end.0 r) (sym (append-nil done)) end.2;
            shorter = omega arith;
          }
      | inr other ↦
          let next = only_mark Comma (goes (ScopeComma done) S) x r other in
          let l : length x ≡ suc (length next.0) = ap length next.1 in
          let found : FoundName done S next.0 r = name_found done S next.0 r next.2 in
          let l' : length next.0 ≡ suc (length found.rest) = ap length found.reads in
          let more : FoundMoreNames (done ++ found.name ∷ []) S found.rest r =
          more_names_found m (done ++ found.name ∷ []) S found.rest r (omega arith) found.accepts in
          let lt : length more.rest < length found.rest = more.shorter in
          record {
            names = found.name ∷ more.names;
            rest = more.rest;
            reads = (next.0, next.1, (found.rest, found.reads, more.reads));
            accepts = subst (λ l. Accepts (begin (ForStrategy (Scope l) ∷ S)) more.rest r)
                (append_assoc done (found.name ∷ []) more.names) more.accepts;
            shorter = omega arith;
          }
    ]

pub names_found : (S : List ParserFrame) (x : List Token) (r : Strategy) → Accepts (step ScopeOpen S) x r
    → FoundNames S x r
names_found S x r k = elim (at_mark Colon (goes ToStrategy (ForStrategy (Scope []) ∷ S)) (scope_name [] S) x r k) [
  | inl end ↦ let l : length x ≡ suc (length end.0) = ap length end.1 in
      record { names = []; rest = end.0; reads = end.1; accepts = end.2; shorter = omega arith }
  | inr other ↦
      let found : FoundName [] S x r = name_found [] S x r other in
      let l : length x ≡ suc (length found.rest) = ap length found.reads in
      let more : FoundMoreNames (found.name ∷ []) S found.rest r =
      more_names_found (length found.rest) (found.name ∷ []) S found.rest r (omega arith) found.accepts in
      let lt : length more.rest < length found.rest = more.shorter in
      record {
        names = found.name ∷ more.names;
        rest = more.rest;
        reads = (found.rest, found.reads, more.reads);
        accepts = more.accepts;
        shorter = omega arith;
      }
]
