-- How far the machine takes some tokens, and what that says of strategies.
use Rattle.std.proofs.Common.{◌≡◌, ℕ, ◌+◌, ◌-◌, ◌<◌, ◌≤◌, ◌==◌, Bool, true, false, refl, sym, ap, ◌∙◌, subst, List, [], ◌∷◌, ◌++◌, length, take, Some, None, IfSome, IfNone, arith, append_assoc, append-nil, length-append}
use Rattle.std.proofs.lemmas.Bool.{eqb-true}
use Rattle.std.proofs.lemmas.List.{take_at}
use Rattle.std.specs.declared.option.Option.{Option}
use Rattle.strategy_syntax.specs.Syntax.{Strategy}
use Rattle.strategy_tokens.specs.declared.token.Token.{Token}
use Rattle.strategy_tokens.specs.declared.token.Token.TheVariants.{Bad}
use Rattle.strategy_parse.specs.declared.parser.state.ParserState.{ParserState}
use Rattle.strategy_parse.specs.declared.parser.state.ParserState.TheVariants.{Strategy as ToStrategy, FirstStrategy, Read, Used, Opening, Rec as AfterRec, Prim as AfterPrim, PrimOpen, PrimNamed, ScopeOpen, ScopeComma, ScopeNamed, Pattern as ToPattern, FirstPattern, Named, Base, Whole}
use Rattle.strategy_parse.specs.declared.parser.state.ParserFrame.{ParserFrame}
use Rattle.strategy_parse.specs.declared.parser.state.Order.TheVariants.{Run}
use Rattle.strategy_parse.specs.Core.{core}
use Rattle.strategy_parse.specs.inside.Parser.{goes, ends, stuck, step, front, front_of}
use Rattle.strategy_parse.specs.Stuck.{Begin, BeginNone, StuckAt}
use Rattle.strategy_parse.specs.inside.StuckPlaces.{IsFirst, read_from, GoesOn, Halts, Passed}
use Rattle.strategy_parse.proofs.Fronts.{resumed_front, step-ends, bad_quiet}
use Rattle.strategy_parse.proofs.FrontGives.{front-gives, choice-front}
use Rattle.strategy_parse.proofs.FitLemmas.{Fits, stands, FitsNext, step-fits}
use Rattle.strategy_parse.proofs.FinishLemmas.{Ends, state_ends}

-- ---- the loop over tokens

-- the machine began in p on x and is now in q with these open forms before y: it finds there what it finds from the
-- start on
pub record Taking (p : ParserState) (x : List Token) (q : ParserState) (S : List ParserFrame)
    (y : List Token) : Type 0 where
  pub taken : List Token
  pub splits : x ≡ taken ++ y
  pub same : (z : List Token) → front (step q S) z ≡ read_from p (taken ++ z)
  pub fits : Fits (stands q) S

first-fits : (p : ParserState) → IsFirst p → Fits (stands p) []
first-fits ToStrategy h = tt
first-fits ToPattern h = tt
first-fits (FirstStrategy g) h = absurd h
first-fits (Read s) h = absurd h
first-fits (Used f) h = absurd h
first-fits (Opening F) h = absurd h
first-fits AfterRec h = absurd h
first-fits AfterPrim h = absurd h
first-fits PrimOpen h = absurd h
first-fits (PrimNamed f) h = absurd h
first-fits ScopeOpen h = absurd h
first-fits (ScopeComma xs) h = absurd h
first-fits (ScopeNamed xs) h = absurd h
first-fits (FirstPattern g) h = absurd h
first-fits (Named f) h = absurd h
first-fits (Base p) h = absurd h
first-fits (Whole p) h = absurd h

pub taking_starts : (p : ParserState) (x : List Token) (S : List ParserFrame) → IsFirst p → S ≡ [] → Taking p x p S x
taking_starts p x S h e =
    subst (λ l. Taking p x p l x) (sym e)
    (record { taken = []; splits = refl; same = λ z. refl; fits = first-fits p h })

pub taking_goes : (p : ParserState) (x : List Token) (q : ParserState) (S : List ParserFrame) (y : List Token)
    (t : Token) (ts : List Token) (r : ParserState) (R : List ParserFrame)
    → Taking p x q S y → y ≡ t ∷ ts → step q S t ≡ goes r R → Taking p x r R ts
taking_goes p x q S y t ts r R l e h = record {
  taken = l.taken ++ t ∷ [];
  splits = l.splits ∙ ap (λ k. l.taken ++ k) e ∙ sym (append_assoc l.taken (t ∷ []) ts);
  same = λ z.
      sym (ap (front_of (λ q S. front (step q S) z) (t ∷ z)) h) ∙ l.same (t ∷ z)
      ∙ ap (read_from p) (sym (append_assoc l.taken (t ∷ []) z));
  fits = subst FitsNext h (step-fits q S t l.fits);
}

taking_on : (p : ParserState) (x : List Token) (q : ParserState) (S : List ParserFrame) (y : List Token)
    → (l : Taking p x q S y) → GoesOn p l.taken
taking_on p x q S y l =
    let e : Ends (step q S) = state_ends S q l.fits in
    record {
      more = e.0;
      form = e.1;
      reads = λ z stops. sym (l.same (e.0 ++ z)) ∙ resumed_front e.0 q S z e.1 stops e.2;
    }

pub taking_ends : (p : ParserState) (x : List Token) (q : ParserState) (S : List ParserFrame) (y : List Token)
    (t : Token) (ts : List Token) (s : Strategy)
    → Taking p x q S y → y ≡ t ∷ ts → step q S t ≡ ends s → Passed p x true y
taking_ends p x q S y t ts s l e h = record {
  taken = l.taken;
  splits = l.splits;
  goes_on = taking_on p x q S y l;
  halts = subst (Halts p l.taken true) (sym e) (record {
    form = s;
    last = sym (l.same []) ∙ ap (front_of (λ q S. None) []) (step-ends t Bad bad_quiet q S s h);
    before = λ z. sym (l.same (t ∷ z)) ∙ ap (front_of (λ q S. front (step q S) z) (t ∷ z)) h;
  });
}

pub taking_stuck : (p : ParserState) (x : List Token) (q : ParserState) (S : List ParserFrame) (y : List Token)
    (t : Token) (ts : List Token)
    → Taking p x q S y → y ≡ t ∷ ts → step q S t ≡ stuck → Passed p x false y
taking_stuck p x q S y t ts l e h = record {
  taken = l.taken;
  splits = l.splits;
  goes_on = taking_on p x q S y l;
  halts = subst (Halts p l.taken false) (sym e)
      (λ z. sym (l.same (t ∷ z)) ∙ ap (front_of (λ q S. front (step q S) z) (t ∷ z)) h);
}

pub taking_all : (p : ParserState) (x : List Token) (q : ParserState) (S : List ParserFrame) (y : List Token)
    → Taking p x q S y → y ≡ [] → Passed p x false y
taking_all p x q S y l e = record {
  taken = l.taken;
  splits = l.splits;
  goes_on = taking_on p x q S y l;
  halts = subst (Halts p l.taken false) (sym e) tt;
}

pub ruleset taking_rules = (taking_starts, taking_goes, taking_ends, taking_stuck, taking_all)

pub passed_shorter : (p : ParserState) (x : List Token) (b : Bool) (y : List Token) → Passed p x b y
    → length y ≤ length x
passed_shorter p x b y h =
    let e : length x ≡ length h.taken + length y = ap length h.splits ∙ length-append h.taken y in
    omega arith

-- ---- the tokens of a strategy

begins : (taken : List Token) → GoesOn ToStrategy taken → Begin taken
begins taken h = (
  h.more,
  h.form,
  front-gives (taken ++ h.more) h.form []
      (ap (λ l. read_from ToStrategy (taken ++ l)) (sym (append-nil h.more)) ∙ h.reads [] tt),
)

-- what ends before a token or is stuck there gives no strategy together with it
halts_none : (b : Bool) (taken : List Token) (t : Token) (ts : List Token)
    → Halts ToStrategy taken b (t ∷ ts) → BeginNone (taken ++ t ∷ [])
halts_none b taken t ts h rest s (a, reads, is) =
    non b h (ap (read_from ToStrategy) (sym (append_assoc taken (t ∷ []) rest))
    ∙ choice-front a ((taken ++ t ∷ []) ++ rest) [] reads tt) where
      non : (b : Bool)
          → Halts ToStrategy taken b (t ∷ ts) → read_from ToStrategy (taken ++ t ∷ rest) ≡ Some (core Run a, []) → ⊥
      non true k e =
          let both : ◌≡◌ {A = Option (Strategy × List Token)} (Some (core Run a, [])) (Some (k.form, t ∷ rest)) = sym e
          ∙ k.before rest in
          let pair : ◌≡◌ {A = Strategy × List Token} (core Run a, []) (k.form, t ∷ rest) = cc in
          let none : ◌≡◌ {A = List Token} [] (t ∷ rest) = ap (λ (q : Strategy × List Token). q.1) pair in
          cc
      non false k e = let none : ◌≡◌ {A = Option (Strategy × List Token)} None (Some (core Run a, [])) =
          sym (k rest) ∙ e in cc

pub stuck-at : (x : List Token) (b : Bool) (y : List Token) → Passed ToStrategy x b y
    → (length y == 0) ≡ false → StuckAt x (length x - length y)
stuck-at x b [] h some = let non : true ≡ false = some in absurd (cc)
stuck-at x b (t ∷ ts) h some =
    let k : ℕ = length x - length (t ∷ ts) in
    let sum : length x ≡ length h.taken + length (t ∷ ts) = ap length h.splits ∙ length-append h.taken (t ∷ ts) in
    let size : length h.taken ≡ length x - length (t ∷ ts) = omega arith in
    let longer : length (h.taken ++ t ∷ []) ≡ k + 1 = length-append h.taken (t ∷ []) ∙ ap (λ n. n + 1) size in
    let more : x ≡ (h.taken ++ t ∷ []) ++ ts = h.splits ∙ sym (append_assoc h.taken (t ∷ []) ts) in
    record {
      there = let lt : length x - length (t ∷ ts) < length x = omega arith in lt;
      begin = subst Begin (sym (ap (take k) h.splits ∙ take_at h.taken (t ∷ ts) k size)) (begins h.taken h.goes_on);
      begin_none = subst BeginNone (sym (ap (take (k + 1)) more ∙ take_at (h.taken ++ t ∷ []) ts (k + 1) longer))
          (halts_none b h.taken t ts h.halts);
    }

pub begin-all : (x : List Token) (b : Bool) (y : List Token) → Passed ToStrategy x b y
    → (length y == 0) ≡ true → Begin x
begin-all x b (t ∷ ts) h e = absurd (omega (arith, eqb-true (length (t ∷ ts)) 0 e))
begin-all x b [] h e = subst Begin (sym (h.splits ∙ append-nil h.taken)) (begins h.taken h.goes_on)

-- ---- as the code has it

pub found-stuck : (x ts : List Token) (o : Option ℕ) (k : ℕ) → x ≡ ts → IfSome o (λ j. StuckAt x j) → o ≡ Some k
    → StuckAt ts k
found-stuck x ts o k same h is = subst (λ l. StuckAt l k) same (subst (λ q. IfSome q (λ j. StuckAt x j)) is h)

pub found-none : (x ts : List Token) (o : Option ℕ) → x ≡ ts → IfNone o (Begin x) → o ≡ None → Begin ts
found-none x ts o same h is = subst Begin same (subst (λ q. IfNone q (Begin x)) is h)
