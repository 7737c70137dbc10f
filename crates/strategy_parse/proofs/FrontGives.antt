-- At the start of some tokens the machine and the grammar give the same.
use Rattle.std.proofs.Common.{◌≡◌, refl, sym, ap, ◌∙◌, subst, List, [], ◌∷◌, ◌++◌, Some, None, length, take, ◌+◌, ◌-◌, arith, append-nil, length-append}
use Rattle.std.proofs.lemmas.List.{take_at}
use Rattle.std.specs.declared.option.Option.{Option}
use Rattle.strategy_syntax.specs.Syntax as syntax
use Rattle.strategy_syntax.specs.Syntax.{Pattern, Strategy}
use Rattle.strategy_syntax.specs.StrategyView.{strategy_of}
use Rattle.strategy_syntax.specs.declared.strategy.StrategyForm.{StrategyForm}
use Rattle.strategy_syntax.specs.declared.strategy.StrategyForm.TheVariants as form
use Rattle.strategy_tokens.specs.declared.token.Token.{Token}
use Rattle.strategy_parse.specs.declared.parser.state.ParserState.TheVariants.{Strategy as ToStrategy, Pattern as ToPattern}
use Rattle.strategy_parse.specs.declared.parser.state.ParserFrame.{ParserFrame}
use Rattle.strategy_parse.specs.declared.parser.state.ParserFrame.TheVariants.{InText}
use Rattle.strategy_parse.specs.declared.parser.state.Order.TheVariants.{Run, Written}
use Rattle.strategy_parse.specs.Written.{Choice}
use Rattle.strategy_parse.specs.Grammar.{ReadsPattern, ReadsChoice, Reading}
use Rattle.strategy_parse.specs.Core.{core}
use Rattle.strategy_parse.specs.inside.Parser.{begin_pattern, after_pattern, step, front}
use Rattle.strategy_parse.specs.inside.Fronts.{Stops, FrontGives}
use Rattle.strategy_parse.proofs.Runs.{Accepts}
use Rattle.strategy_parse.proofs.CompletePatterns.{pattern_in}
use Rattle.strategy_parse.proofs.SoundPatterns.{FoundPattern, pattern_found}
use Rattle.strategy_parse.proofs.CompleteStrategies.{reads_all, reads_in_text}
use Rattle.strategy_parse.proofs.SoundStrategies.{read_all}
use Rattle.strategy_parse.proofs.Frames.{Front, Framed, choice_framed, pattern_framed}
use Rattle.strategy_parse.proofs.Fronts.{resumed_front, front_taken}

-- what reads alone reads before any tokens
in_front : (R : Reading) → Framed R → (w y : List Token) → R w [] → R (w ++ y) y
in_front R f w y h =
    let g = f.frames w [] h in
    subst (λ l. R (l ++ y) y) (sym (g.splits ∙ append-nil g.taken)) (g.anywhere y)

-- what reads at the start reads alone
alone : (R : Reading) (u y : List Token) → (f : Front R u y) → R f.taken []
alone R u y f = subst (λ l. R l []) (append-nil f.taken) (f.anywhere [])

-- a choice before a rest is all of the tokens before it
pub choice_alone : (a : Choice) (x y : List Token) → ReadsChoice a x y → ReadsChoice a (take (length x - length y) x) []
choice_alone a x y h =
    let f = (choice_framed a).frames x y h in
    let sum : length x ≡ length f.taken + length y = ap length f.splits ∙ length-append f.taken y in
    let size : length f.taken ≡ length x - length y = omega arith in
    let front : take (length x - length y) x ≡ f.taken = ap (take (length x - length y)) f.splits
    ∙ take_at f.taken y (length x - length y) size in
    subst (λ l. ReadsChoice a l []) (sym front) (alone (ReadsChoice a) x y f)

pub front-gives : (x : List Token) (s : Strategy) (y : List Token) → front (step ToStrategy []) x ≡ Some (s, y)
    → FrontGives x s y
front-gives x s y e =
    let t = front_taken x ToStrategy [] s y e in
    let found = read_all t.taken s t.gives in (
      found.0,
      subst (λ l. ReadsChoice found.0 l y) (sym t.splits)
          (in_front (ReadsChoice found.0) (choice_framed found.0) t.taken y found.1),
      found.2,
    )

pub choice-front : (a : Choice) (x y : List Token) → ReadsChoice a x y → Stops y
    → front (step ToStrategy []) x ≡ Some (core Run a, y)
choice-front a x y h stops =
    let f = (choice_framed a).frames x y h in
    let run =
    resumed_front f.taken ToStrategy [] y (core Run a) stops (reads_all a f.taken (alone (ReadsChoice a) x y f)) in
    ap (front (step ToStrategy [])) f.splits ∙ run

-- all of the tokens, in the order of the text
pub text-front : (a : Choice) (x : List Token) → ReadsChoice a x []
    → front (step ToStrategy (InText ∷ [])) x ≡ Some (core Written a, [])
text-front a x h =
    ap (front (step ToStrategy (InText ∷ []))) (sym (append-nil x))
    ∙ resumed_front x ToStrategy (InText ∷ []) [] (core Written a) tt (reads_in_text a x h)

-- ---- a pattern alone

-- x begins with a pattern, given as the strategy that matches it, and y is the rest
abbrev pub FrontPattern : List Token → Strategy → List Token → Type 0
FrontPattern x s y = (p : Pattern) × ReadsPattern p x y × (s ≡ syntax.matches p)

read_alone : (p : Pattern) (x y : List Token) (s : Strategy) → ReadsPattern p x y → Accepts (after_pattern p []) y s
    → FrontPattern x s []
read_alone p x [] s h e = let same : ◌≡◌ {A = Option Strategy} (Some (syntax.matches p)) (Some s) = e in (p, h, cc)
read_alone p x (t ∷ ts) s h e = let no : ◌≡◌ {A = Option Strategy} None (Some s) = e in absurd (cc)

alone_found : (w : List Token) (s : Strategy) → Accepts (begin_pattern []) w s → FrontPattern w s []
alone_found w s e =
    let found : FoundPattern [] w s = pattern_found (length w) [] w s (omega arith) e in
    read_alone found.pattern w found.rest s found.reads found.accepts

pub front-pattern : (x : List Token) (s : Strategy) (y : List Token) → front (step ToPattern []) x ≡ Some (s, y)
    → FrontPattern x s y
front-pattern x s y e =
    let t = front_taken x ToPattern [] s y e in
    let found = alone_found t.taken s t.gives in (
      found.0,
      subst (λ l. ReadsPattern found.0 l y) (sym t.splits)
          (in_front (ReadsPattern found.0) (pattern_framed found.0) t.taken y found.1),
      found.2,
    )

pub pattern-front : (p : Pattern) (x y : List Token) → ReadsPattern p x y → Stops y
    → front (step ToPattern []) x ≡ Some (syntax.matches p, y)
pattern-front p x y h stops =
    let f = (pattern_framed p).frames x y h in
    let run = resumed_front f.taken ToPattern [] y (syntax.matches p) stops
    (pattern_in p [] f.taken [] (syntax.matches p) (alone (ReadsPattern p) x y f) refl) in
    ap (front (step ToPattern [])) f.splits ∙ run

-- ---- what the code says about the start

same_front : (s r : Strategy) (x y : List Token) → ◌≡◌ {A = Option (Strategy × List Token)} (Some (s, x)) (Some (r, y))
    → (s ≡ r) × (x ≡ y)
same_front s r x y e =
    let same : ◌≡◌ {A = Strategy × List Token} (s, x) (r, y) = cc in
    (ap (λ (p : Strategy × List Token). p.0) same, ap (λ (p : Strategy × List Token). p.1) same)

no_front : (o : Option (Strategy × List Token)) (p : Strategy × List Token) → o ≡ None → o ≡ Some p → ⊥
no_front o p h k = let no : ◌≡◌ {A = Option (Strategy × List Token)} None (Some p) = sym h ∙ k in cc

module _ (x : List Token) (S : List ParserFrame) (bottom : S ≡ []) where
  pub strategy-given : (s : Strategy) (y : List Token) → front (step ToStrategy S) x ≡ Some (s, y) → FrontGives x s y
  strategy-given s y e = front-gives x s y (subst (λ l. front (step ToStrategy l) x ≡ Some (s, y)) bottom e)

  reached : (a : Choice) (y : List Token) → ReadsChoice a x y → Stops y
      → front (step ToStrategy S) x ≡ Some (core Run a, y)
  reached a y h stops =
      subst (λ l. front (step ToStrategy l) x ≡ Some (core Run a, y)) (sym bottom) (choice-front a x y h stops)

  pub strategy-only : (s : Strategy) (z : List Token) → front (step ToStrategy S) x ≡ Some (s, z)
      → (a : Choice) (y : List Token) → ReadsChoice a x y → Stops y → (core Run a ≡ s) × (y ≡ z)
  strategy-only s z e a y h stops = same_front (core Run a) s y z (sym (reached a y h stops) ∙ e)

  pub strategy-none : front (step ToStrategy S) x ≡ None → (a : Choice) (y : List Token) → ReadsChoice a x y
      → Stops y → ⊥
  strategy-none e a y h stops = no_front (front (step ToStrategy S) x) (core Run a, y) e (reached a y h stops)

module _ (x : List Token) (S : List ParserFrame) (bottom : S ≡ InText ∷ []) where
  text-reached : (a : Choice) → ReadsChoice a x [] → front (step ToStrategy S) x ≡ Some (core Written a, [])
  text-reached a h =
      subst (λ l. front (step ToStrategy l) x ≡ Some (core Written a, [])) (sym bottom) (text-front a x h)

  pub text-only : (s : Strategy) (z : List Token) → front (step ToStrategy S) x ≡ Some (s, z) → (a : Choice)
      → ReadsChoice a x [] → core Written a ≡ s
  text-only s z e a h = (same_front (core Written a) s [] z (sym (text-reached a h) ∙ e)).0

  pub text-none : front (step ToStrategy S) x ≡ None → (a : Choice) → ReadsChoice a x [] → ⊥
  text-none e a h = no_front (front (step ToStrategy S) x) (core Written a, []) e (text-reached a h)

module _ (x : List Token) (S : List ParserFrame) (bottom : S ≡ []) where
  pub pattern-given : (s : Strategy) (p : Pattern) (y : List Token) → front (step ToPattern S) x ≡ Some (s, y)
      → s ≡ syntax.matches p → ReadsPattern p x y
  pattern-given s p y e same =
      let found = front-pattern x s y (subst (λ l. front (step ToPattern l) x ≡ Some (s, y)) bottom e) in
      let both : syntax.matches found.0 ≡ syntax.matches p = sym found.2 ∙ same in
      let is : found.0 ≡ p = cc in
      subst (λ q. ReadsPattern q x y) is found.1

  pattern-reached : (p : Pattern) (y : List Token) → ReadsPattern p x y → Stops y
      → front (step ToPattern S) x ≡ Some (syntax.matches p, y)
  pattern-reached p y h stops =
      subst (λ l. front (step ToPattern l) x ≡ Some (syntax.matches p, y)) (sym bottom) (pattern-front p x y h stops)

  pub pattern-is : (s : Strategy) (z : List Token) → front (step ToPattern S) x ≡ Some (s, z)
      → (p : Pattern) (y : List Token) → ReadsPattern p x y → Stops y → (syntax.matches p ≡ s) × (y ≡ z)
  pattern-is s z e p y h stops = same_front (syntax.matches p) s y z (sym (pattern-reached p y h stops) ∙ e)

  pub pattern-only : (s : Strategy) (q : Pattern) (z : List Token) → front (step ToPattern S) x ≡ Some (s, z)
      → s ≡ syntax.matches q → (p : Pattern) (y : List Token) → ReadsPattern p x y → Stops y → (p ≡ q) × (y ≡ z)
  pattern-only s q z e same p y h stops =
      let is = pattern-is s z e p y h stops in
      let e2 : syntax.matches p ≡ syntax.matches q = is.0 ∙ same in
      (cc, is.1)

  pub pattern-none : front (step ToPattern S) x ≡ None → (p : Pattern) (y : List Token) → ReadsPattern p x y
      → Stops y → ⊥
  pattern-none e p y h stops =
      no_front (front (step ToPattern S) x) (syntax.matches p, y) e (pattern-reached p y h stops)

-- a strategy of a form other than `?p` is no `?p`
pub other-form : (f : StrategyForm) (q : Pattern) → strategy_of f ≡ syntax.matches q
    → ((p : Pattern) → f ≡ form.Match p → ⊥) → ⊥
other-form (form.Match p) q e apart = apart p refl
other-form form.Id q e apart = cc
other-form form.Fail q e apart = cc
other-form (form.Build p) q e apart = cc
other-form (form.Seq p) q e apart = cc
other-form (form.Guard p) q e apart = cc
other-form (form.Test p) q e apart = cc
other-form (form.Scope xs p) q e apart = cc
other-form (form.Use f ss ps) q e apart = cc
other-form (form.Congruence h ss) q e apart = cc
other-form (form.TailCongruence ss s) q e apart = cc
other-form (form.All s) q e apart = cc
other-form (form.One s) q e apart = cc
other-form (form.Some s) q e apart = cc
other-form (form.Child i s) q e apart = cc
other-form (form.Rec f s) q e apart = cc
other-form (form.Prim f ps) q e apart = cc
