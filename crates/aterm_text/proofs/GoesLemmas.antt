-- The steps of the machine, as the answers of its functions cite them: each premise is what a call
-- ensures.
use Rattle.std.proofs.Common.{◌≡◌, ℕ, ℤ, ◌<◌, ◌≤◌, List, [], ◌∷◌, ◌++◌, length, Some, None, Ok, Err, IfOk, refl, sym, ap, ◌∙◌, subst, arith}
use Rattle.std.specs.declared.option.Option.{Option}
use Rattle.std.proofs.lemmas.Int.{to_z-of_z}
use Rattle.std.specs.Int.{w64}
use mir.Val.{to_z, of_z}
use Rattle.term_core.specs.Tree.{Symbol, Tree, integer_term, application_term, list_term, tuple_term, with_annotations, with_children}
use Rattle.aterm_text.specs.Tokens.{NextSign, NextName, without_blanks}
use Rattle.aterm_text.specs.inside.Beginnings.{an_integer, Begins, beginning_of}
use Rattle.aterm_text.proofs.TokenLemmas.{NoTerm}
use Rattle.aterm_text.specs.inside.Level.{Bracket, arguments, elements, components, annotating, Level, closing_of}
use Rattle.aterm_text.proofs.StepLemmas.{with_term, new_level, step-integer, step-list, step-tuple, step-arguments, step-constant, step-closing, step-entered, step-annotations, step-bare, step-comma, step-close, stuck-whole, stuck-no_term, end-whole, continues_on, stuck_after, end_after}
use Rattle.aterm_text.specs.inside.TermStack.{TermStack, OpenBracket, no_terms, with_top, inside, first_closing, closes}
use Rattle.aterm_text.specs.inside.Unread.{Reading, expected, entered, base, whole, Continues, IsStuck, IsEnd, Holds, ReaderStands, GoesOn, Goes, ReaderLeads, IsLost, IsClosed, opening_of, bearer, closed}
use Rattle.aterm_text.specs.declared.reader.lexeme.Lexeme.{Lexeme}
use Rattle.aterm_text.specs.declared.reader.lexeme.Lexeme.TheVariants.{Integer}
use Rattle.aterm_text.specs.declared.reader.stack.Opening.{Opening}
use Rattle.aterm_text.specs.declared.reader.stack.Opening.TheVariants.{Round, Square, Curly}
use Rattle.aterm_text.specs.declared.reader.machine.ReaderState.{ReaderState}
use Rattle.aterm_text.specs.declared.reader.machine.ReaderState.TheVariants.{Expected, Entered, Base, Whole}
use Rattle.aterm_text.specs.declared.reader.machine.Progress.{Progress}
use Rattle.aterm_text.specs.declared.reader.ReadFault.{ReadFault}
use Rattle.std.specs.declared.result.Result.{Result}
use Rattle.aterm_text.specs.declared.reader.machine.Progress.TheVariants.{More, Done}
use Rattle.aterm_text.proofs.TrimLemmas.{continues-trimmed}

-- ---- what the state says about the reading

pub at_expected : (r : Reading) (levels : List Level) (s : TermStack) → ReaderStands r levels Expected s
    → (r ≡ expected) × Holds levels s
at_expected expected levels s h = (refl, h.1)
at_expected entered levels s h = let no = h.0 in absurd (cc)
at_expected (base t) levels s h = let no = h.1 in absurd (cc)
at_expected (whole t) levels s h = let no = h.1 in absurd (cc)

pub at_entered : (r : Reading) (levels : List Level) (s : TermStack) → ReaderStands r levels Entered s
    → (r ≡ entered) × Holds levels s
at_entered expected levels s h = let no = h.0 in absurd (cc)
at_entered entered levels s h = (refl, h.1)
at_entered (base t) levels s h = let no = h.1 in absurd (cc)
at_entered (whole t) levels s h = let no = h.1 in absurd (cc)

-- the term that was read last, and the stack below it
pub record Last (levels : List Level) (s : TermStack) (t : Tree) : Type 0 where
  pub below : TermStack
  pub is : s ≡ with_top t below
  pub holds : Holds levels below

pub at_base : (r : Reading) (levels : List Level) (s : TermStack) → ReaderStands r levels Base s
    → (t : Tree) × (r ≡ base t) × (with_annotations t [] ≡ t) × Last levels s t
at_base expected levels s h = let no = h.0 in absurd (cc)
at_base entered levels s h = let no = h.0 in absurd (cc)
at_base (base t) levels s h = (t, refl, h.4, record { below = h.0; is = h.2; holds = h.3 })
at_base (whole t) levels s h = let no = h.1 in absurd (cc)

pub at_whole : (r : Reading) (levels : List Level) (s : TermStack) → ReaderStands r levels Whole s
    → (t : Tree) × (r ≡ whole t) × Last levels s t
at_whole expected levels s h = let no = h.0 in absurd (cc)
at_whole entered levels s h = let no = h.0 in absurd (cc)
at_whole (base t) levels s h = let no = h.1 in absurd (cc)
at_whole (whole t) levels s h = (t, refl, record { below = h.0; is = h.2; holds = h.3 })

-- ---- what closes the innermost bracket

closes-opening_of : (o : Bracket) → closes (opening_of o) ≡ closing_of o
closes-opening_of (arguments name) = refl
closes-opening_of elements = refl
closes-opening_of components = refl
closes-opening_of (annotating t) = refl

closing-inside : (level : Level) (levels : List Level) (s : TermStack) → Holds (level ∷ levels) s
    → first_closing s ≡ Some (closing_of level.opened)
closing-inside level levels s h = ap first_closing h.2 ∙ ap Some (closes-opening_of level.opened)

closing-top : (level : Level) (levels : List Level) (s : TermStack) (t : Tree) → Last (level ∷ levels) s t
    → first_closing s ≡ Some (closing_of level.opened)
closing-top level levels s t h = ap first_closing h.is ∙ ap (λ b. first_closing (with_top t b)) h.holds.2
    ∙ ap Some (closes-opening_of level.opened)

same_sign : (o : Option ℕ) (a b : ℕ) → o ≡ Some a → o ≡ Some b → a ≡ b
same_sign o a b h k = let same : Some a ≡ Some b = sym h ∙ k in cc

-- ---- one step after another

pub goes_after : (r r' : Reading) (levels levels' : List Level) (x x' : List ℕ) (step : Progress) (s : TermStack)
    → Continues r levels x r' levels' x' → length x' ≤ length x
    → Goes r' levels' x' step s → Goes r levels x step s
goes_after r r' levels levels' x x' (More state rest) s c le g = record {
  reading = g.reading;
  levels' = g.levels';
  stands = g.stands;
  continues = continues_on r r' g.reading levels levels' g.levels' x x' rest.now c g.continues;
  shorter = omega (arith, g.shorter);
}
goes_after r r' levels levels' x x' Done s c le g = (g.0, g.1, end_after r r' levels levels' x x' g.0 c g.2)

pub leads-trimmed : (state : ReaderState) (s s' : TermStack) (x text : List ℕ) (step : Progress)
    → text ≡ without_blanks x → length text ≤ length x → ReaderLeads state s text step s'
    → ReaderLeads state s x step s'
leads-trimmed state s s' x text step e le leads r levels h =
    goes_after r r levels levels x text step s'
    (subst (λ l. Continues r levels x r levels l) (sym e) (continues-trimmed r levels x)) le (leads r levels h)

pub lost-trimmed : (state : ReaderState) (s : TermStack) (x text : List ℕ) → text ≡ without_blanks x
    → IsLost state s text → IsLost state s x
lost-trimmed state s x text e lost r levels h = stuck_after r r levels levels x text
    (subst (λ l. Continues r levels x r levels l) (sym e) (continues-trimmed r levels x)) (lost r levels h)

-- ---- a term has to begin

pub lost-no_term : (s : TermStack) (x : List ℕ) → NoTerm x → IsLost Expected s x
lost-no_term s x absent r levels h =
    subst (λ q. IsStuck q levels x) (sym (at_expected r levels s h).0) (stuck-no_term levels x absent)

module _ (s s' : TermStack) (x y : List ℕ) (shorter : length y < length x) where
  pub leads-integer : (lexeme : Lexeme) (z : ℤ) (t : Tree) → Begins (beginning_of lexeme) x y → lexeme ≡ Integer z
      → t ≡ integer_term (to_z w64 (of_z w64 z)) → s' ≡ with_top t s
      → (r : Reading) (levels : List Level) → ReaderStands r levels Expected s → GoesOn r levels x Base s' y
  leads-integer lexeme z t h e converted same r levels stands =
      let at = at_expected r levels s stands in
      let found : Begins (an_integer z) x y = subst (λ k. Begins (beginning_of k) x y) e h in
      let made : t ≡ integer_term z = converted ∙ ap integer_term (to_z-of_z w64 z found.0.2) in
      record {
        reading = base (integer_term z);
        levels' = levels;
        stands = (s, refl, same ∙ ap (λ u. with_top u s) made, at.1, refl);
        continues = subst (λ q. Continues q levels x (base (integer_term z)) levels y) (sym at.0)
            (step-integer levels x y z found);
        shorter = shorter;
      }

  pub leads-list : (t : Tree) (us : List Tree) → NextSign 91 x y → t ≡ list_term us
      → us ≡ [] → s' ≡ inside Square [] (with_top t s)
      → (r : Reading) (levels : List Level) → ReaderStands r levels Expected s → GoesOn r levels x Entered s' y
  leads-list t us next made empty same r levels stands =
      let at = at_expected r levels s stands in
      let bears : t ≡ list_term [] = made ∙ ap list_term empty in
      record {
        reading = entered;
        levels' = new_level elements ∷ levels;
        stands = (refl, (s, at.1, same ∙ ap (λ u. inside Square [] (with_top u s)) bears));
        continues = subst (λ q. Continues q levels x entered (new_level elements ∷ levels) y) (sym at.0)
            (step-list levels x y next);
        shorter = shorter;
      }

  pub leads-tuple : (t : Tree) (us : List Tree) → NextSign 40 x y → t ≡ tuple_term us
      → us ≡ [] → s' ≡ inside Round [] (with_top t s)
      → (r : Reading) (levels : List Level) → ReaderStands r levels Expected s → GoesOn r levels x Entered s' y
  leads-tuple t us next made empty same r levels stands =
      let at = at_expected r levels s stands in
      let bears : t ≡ tuple_term [] = made ∙ ap tuple_term empty in
      record {
        reading = entered;
        levels' = new_level components ∷ levels;
        stands = (refl, (s, at.1, same ∙ ap (λ u. inside Round [] (with_top u s)) bears));
        continues = subst (λ q. Continues q levels x entered (new_level components ∷ levels) y) (sym at.0)
            (step-tuple levels x y next);
        shorter = shorter;
      }

  pub leads-annotations : NextSign 123 x y → s' ≡ inside Curly [] s → (r : Reading) (levels : List Level)
      → ReaderStands r levels Base s → GoesOn r levels x Entered s' y
  leads-annotations next same r levels stands =
      let at = at_base r levels s stands in
      record {
        reading = entered;
        levels' = new_level (annotating at.0) ∷ levels;
        stands = (refl, (at.3.below, at.3.holds, same ∙ ap (inside Curly []) at.3.is));
        continues = subst (λ q. Continues q levels x entered (new_level (annotating at.0) ∷ levels) y) (sym at.1)
            (step-annotations levels at.0 x y next);
        shorter = shorter;
      }

module _ (s s' : TermStack) (name : Symbol) (x a text : List ℕ) (h : NextName name x a)
    (trimmed : text ≡ without_blanks a) where
  pub leads-arguments : (t : Tree) (us : List Tree) (y : List ℕ) → length y < length x
      → text ≡ 40 ∷ y → t ≡ application_term name us → us ≡ [] → s' ≡ inside Round [] (with_top t s)
      → (r : Reading) (levels : List Level) → ReaderStands r levels Expected s → GoesOn r levels x Entered s' y
  leads-arguments t us y shorter next made empty same r levels stands =
      let at = at_expected r levels s stands in
      let bears : t ≡ application_term name [] = made ∙ ap (application_term name) empty in
      record {
        reading = entered;
        levels' = new_level (arguments name) ∷ levels;
        stands = (refl, (s, at.1, same ∙ ap (λ u. inside Round [] (with_top u s)) bears));
        continues = subst (λ q. Continues q levels x entered (new_level (arguments name) ∷ levels) y) (sym at.0)
            (step-arguments levels name x a h y (sym trimmed ∙ next));
        shorter = shorter;
      }

  pub leads-constant : (t : Tree) (us : List Tree) → length text < length x
      → ((b : List ℕ) → text ≡ 40 ∷ b → ⊥) → t ≡ application_term name us → us ≡ [] → s' ≡ with_top t s
      → (r : Reading) (levels : List Level) → ReaderStands r levels Expected s → GoesOn r levels x Base s' text
  leads-constant t us shorter absent made empty same r levels stands =
      let at = at_expected r levels s stands in
      let constant : t ≡ application_term name [] = made ∙ ap (application_term name) empty in
      record {
        reading = base (application_term name []);
        levels' = levels;
        stands = (s, refl, same ∙ ap (λ u. with_top u s) constant, at.1, refl);
        continues = subst (λ q. Continues q levels x (base (application_term name [])) levels text) (sym at.0)
            (continues_on expected (base (application_term name [])) (base (application_term name [])) levels levels
            levels x a text
            (step-constant levels name x a h (λ b next. absent b (trimmed ∙ next)))
            (subst (λ l. Continues (base (application_term name [])) levels a (base (application_term name [])) levels
            l) (sym trimmed)
            (continues-trimmed (base (application_term name [])) levels a)));
        shorter = shorter;
      }

-- ---- after an opening bracket

module _ (s : TermStack) (closing : ℕ) (x : List ℕ) (closes_so : first_closing s ≡ Some closing) where
  entered-goes : (s' : TermStack) (state : ReaderState) (y : List ℕ) → NextSign closing x y → IsClosed s state s'
      → length y < length x
      → (levels : List Level) → Holds levels s → GoesOn entered levels x state s' y
  entered-goes s' state y next made shorter [] h = let no : None ≡ Some closing = sym (ap first_closing h)
      ∙ closes_so in absurd (cc)
  entered-goes s' state y next made shorter (level ∷ levels) h = record {
    reading = closed level.opened level.done;
    levels' = levels;
    stands = made level levels h;
    continues = step-closing level levels x y (subst (λ c. NextSign c x y)
        (same_sign _ closing (closing_of level.opened) closes_so (closing-inside level levels s h)) next);
    shorter = shorter;
  }

  pub leads-closing : (s' : TermStack) (state : ReaderState) (y : List ℕ) → NextSign closing x y → IsClosed s state s'
      → length y < length x
      → (r : Reading) (levels : List Level) → ReaderStands r levels Entered s → GoesOn r levels x state s' y
  leads-closing s' state y next made shorter r levels stands =
      let at = at_entered r levels s stands in
      subst (λ q. GoesOn q levels x state s' y) (sym at.0) (entered-goes s' state y next made shorter levels at.1)

  entered-expected : ((y : List ℕ) → NextSign closing x y → ⊥) → (levels : List Level) → Holds levels s
      → Continues entered levels x expected levels x
  entered-expected absent [] h = let no : None ≡ Some closing = sym (ap first_closing h) ∙ closes_so in absurd (cc)
  entered-expected absent (level ∷ levels) h =
      step-entered level levels x (λ y next. absent y (subst (λ c. NextSign c x y)
      (sym (same_sign _ closing (closing_of level.opened) closes_so (closing-inside level levels s h))) next))

  pub leads-entered : (s' : TermStack) (step : Progress)
      → ((y : List ℕ) → NextSign closing x y → ⊥) → ReaderLeads Expected s x step s' → ReaderLeads Entered s x step s'
  leads-entered s' step absent leads r levels stands =
      let at = at_entered r levels s stands in
      subst (λ q. Goes q levels x step s') (sym at.0)
      (goes_after entered expected levels levels x x step s' (entered-expected absent levels at.1) (omega arith)
      (leads expected levels (refl, at.1)))

  pub lost-entered : ((y : List ℕ) → NextSign closing x y → ⊥) → IsLost Expected s x → IsLost Entered s x
  lost-entered absent lost r levels stands =
      let at = at_entered r levels s stands in
      subst (λ q. IsStuck q levels x) (sym at.0) (stuck_after entered expected levels levels x x
      (entered-expected absent levels at.1) (lost expected levels (refl, at.1)))

nothing-entered : (s : TermStack) (x : List ℕ) → None ≡ first_closing s → (levels : List Level) → Holds levels s
    → IsStuck entered levels x
nothing-entered s x e [] h all k = k
nothing-entered s x e (level ∷ levels) h all k = let no : None ≡ Some (closing_of level.opened) = e
    ∙ closing-inside level levels s h in absurd (cc)

pub lost-nothing-entered : (s : TermStack) (x : List ℕ) → None ≡ first_closing s → IsLost Entered s x
lost-nothing-entered s x e r levels stands =
    let at = at_entered r levels s stands in
    subst (λ q. IsStuck q levels x) (sym at.0) (nothing-entered s x e levels at.1)

-- ---- after a base

module _ (s : TermStack) (x : List ℕ) (absent : (y : List ℕ) → NextSign 123 x y → ⊥) where
  pub leads-bare : (s' : TermStack) (step : Progress) → ReaderLeads Whole s x step s' → ReaderLeads Base s x step s'
  leads-bare s' step leads r levels stands =
      let at = at_base r levels s stands in
      subst (λ q. Goes q levels x step s') (sym at.1)
      (goes_after (base at.0) (whole at.0) levels levels x x step s' (step-bare levels at.0 x absent at.2) (omega arith)
      (leads (whole at.0) levels (at.3.below, refl, at.3.is, at.3.holds)))

  pub lost-bare : IsLost Whole s x → IsLost Base s x
  lost-bare lost r levels stands =
      let at = at_base r levels s stands in
      subst (λ q. IsStuck q levels x) (sym at.1)
      (stuck_after (base at.0) (whole at.0) levels levels x x (step-bare levels at.0 x absent at.2)
      (lost (whole at.0) levels (at.3.below, refl, at.3.is, at.3.holds)))

-- ---- after a whole term

one-more : (level : Level) (levels : List Level) (s : TermStack) (t : Tree) → Last (level ∷ levels) s t
    → Holds (with_term level t ∷ levels) s
one-more level levels s t h = (h.holds.0, h.holds.1, h.is ∙ ap (with_top t) h.holds.2)

module _ (s : TermStack) (closing : ℕ) (x : List ℕ) (closes_so : first_closing s ≡ Some closing) where
  none-open : (t : Tree) → Last [] s t → ⊥
  none-open t h = let no : None ≡ Some closing =
      sym (ap first_closing h.is ∙ ap (λ b. first_closing (with_top t b)) h.holds) ∙ closes_so in absurd (cc)

  whole-comma : (t : Tree) (y : List ℕ) → NextSign 44 x y → length y < length x → (levels : List Level)
      → Last levels s t → GoesOn (whole t) levels x Expected s y
  whole-comma t y next shorter [] h = absurd (none-open t h)
  whole-comma t y next shorter (level ∷ levels) h = record {
    reading = expected;
    levels' = with_term level t ∷ levels;
    stands = (refl, one-more level levels s t h);
    continues = step-comma level levels t x y next;
    shorter = shorter;
  }

  pub leads-comma : (y : List ℕ) → NextSign 44 x y → length y < length x → (r : Reading) (levels : List Level)
      → ReaderStands r levels Whole s → GoesOn r levels x Expected s y
  leads-comma y next shorter r levels stands =
      let at = at_whole r levels s stands in
      subst (λ q. GoesOn q levels x Expected s y) (sym at.1) (whole-comma at.0 y next shorter levels at.2)

  whole-close : (s' : TermStack) (state : ReaderState) (t : Tree) (y : List ℕ) → NextSign closing x y
      → IsClosed s state s' → length y < length x
      → (levels : List Level) → Last levels s t → GoesOn (whole t) levels x state s' y
  whole-close s' state t y next made shorter [] h = absurd (none-open t h)
  whole-close s' state t y next made shorter (level ∷ levels) h = record {
    reading = closed level.opened (level.done ++ t ∷ []);
    levels' = levels;
    stands = made (with_term level t) levels (one-more level levels s t h);
    continues = step-close level levels t x y (subst (λ c. NextSign c x y)
        (same_sign _ closing (closing_of level.opened) closes_so (closing-top level levels s t h)) next);
    shorter = shorter;
  }

  pub leads-close : (s' : TermStack) (state : ReaderState) (y : List ℕ) → NextSign closing x y → IsClosed s state s'
      → length y < length x
      → (r : Reading) (levels : List Level) → ReaderStands r levels Whole s → GoesOn r levels x state s' y
  leads-close s' state y next made shorter r levels stands =
      let at = at_whole r levels s stands in
      subst (λ q. GoesOn q levels x state s' y) (sym at.1) (whole-close s' state at.0 y next made shorter levels at.2)

  whole-stuck : (t : Tree)
      → ((y : List ℕ) → NextSign 44 x y → ⊥) → ((y : List ℕ) → NextSign closing x y → ⊥) → (levels : List Level)
      → Last levels s t → IsStuck (whole t) levels x
  whole-stuck t no_comma no_closing [] h = absurd (none-open t h)
  whole-stuck t no_comma no_closing (level ∷ levels) h =
      stuck-whole level levels t x no_comma (λ y next. no_closing y (subst (λ c. NextSign c x y)
      (sym (same_sign _ closing (closing_of level.opened) closes_so (closing-top level levels s t h))) next))

  pub lost-whole : ((y : List ℕ) → NextSign 44 x y → ⊥) → ((y : List ℕ) → NextSign closing x y → ⊥) → IsLost Whole s x
  lost-whole no_comma no_closing r levels stands =
      let at = at_whole r levels s stands in
      subst (λ q. IsStuck q levels x) (sym at.1) (whole-stuck at.0 no_comma no_closing levels at.2)

-- if no bracket is open

all-closed : (levels : List Level) (s : TermStack) (t : Tree) → None ≡ first_closing s → Last levels s t
    → (levels ≡ []) × (s ≡ with_top t no_terms)
all-closed [] s t e h = (refl, h.is ∙ ap (with_top t) h.holds)
all-closed (level ∷ levels) s t e h = let no : None ≡ Some (closing_of level.opened) = e
    ∙ closing-top level levels s t h in absurd (cc)

pub leads-end : (s : TermStack) (x : List ℕ) → None ≡ first_closing s
    → without_blanks x ≡ [] → (r : Reading) (levels : List Level) → ReaderStands r levels Whole s
    → (t : Tree) × (s ≡ with_top t no_terms) × IsEnd r levels x t
leads-end s x e blank r levels stands =
    let at = at_whole r levels s stands in
    let none = all-closed levels s at.0 e at.2 in (
      at.0,
      none.1,
      subst (λ q. IsEnd q levels x at.0) (sym at.1)
          (subst (λ l. IsEnd (whole at.0) l x at.0) (sym none.0) (end-whole at.0 x blank)),
    )

pub lost-more : (s : TermStack) (x : List ℕ) → None ≡ first_closing s → (without_blanks x ≡ [] → ⊥) → IsLost Whole s x
lost-more s x e more r levels stands =
    let at = at_whole r levels s stands in
    let none = all-closed levels s at.0 e at.2 in
    subst (λ q. IsStuck q levels x) (sym at.1) (subst (λ l. IsStuck (whole at.0) l x) (sym none.0) (λ all k. more k.0))

-- ---- closing

-- the closed bracket is the innermost of the levels
module _ (s s1 : TermStack) (opening : Opening) (terms : List Tree) (left : s ≡ inside opening terms s1) (level : Level)
    (levels : List Level) (h : Holds (level ∷ levels) s) where
  both : inside (opening_of level.opened) level.done (with_top (bearer level.opened) h.0) ≡ inside opening terms s1
  both = sym h.2 ∙ left

  open_brackets : ◌≡◌ {A = List OpenBracket} (record { opening = opening_of level.opened; terms = level.done }
      ∷ (with_top (bearer level.opened) h.0).open_brackets)
      (record { opening = opening; terms = terms } ∷ s1.open_brackets)
  open_brackets = ap (λ (k : TermStack). k.open_brackets) both

  first : ◌≡◌ {A = OpenBracket} (record { opening = opening_of level.opened; terms = level.done })
      (record { opening = opening; terms = terms })
  first = let same = open_brackets in cc

  pub same_opening : opening_of level.opened ≡ opening
  same_opening = ap (λ (k : OpenBracket). k.opening) first

  pub same_terms : level.done ≡ terms
  same_terms = ap (λ (k : OpenBracket). k.terms) first

  pub same_rest : s1 ≡ with_top (bearer level.opened) h.0
  same_rest =
      let others : (with_top (bearer level.opened) h.0).open_brackets ≡ s1.open_brackets = let same = open_brackets in
      cc in
      sym (λ i. record { outside = (ap (λ (k : TermStack). k.outside) both) i; open_brackets = others i })

base-stands : (o : Bracket) (done : List Tree) (levels : List Level) (below s' : TermStack)
    → (opening_of o ≡ Curly → ⊥) → s' ≡ with_top (with_children (bearer o) done) below → Holds levels below
    → ReaderStands (closed o done) levels Base s'
base-stands (arguments name) done levels below s' other same b = (below, refl, same, b, refl)
base-stands elements done levels below s' other same b = (below, refl, same, b, refl)
base-stands components done levels below s' other same b = (below, refl, same, b, refl)
base-stands (annotating t) done levels below s' other same b = absurd (other refl)

whole-stands : (o : Bracket) (done : List Tree) (levels : List Level) (below s' : TermStack)
    → opening_of o ≡ Curly → s' ≡ with_top (with_annotations (bearer o) done) below → Holds levels below
    → ReaderStands (closed o done) levels Whole s'
whole-stands (arguments name) done levels below s' e same b = absurd (cc)
whole-stands elements done levels below s' e same b = absurd (cc)
whole-stands components done levels below s' e same b = absurd (cc)
whole-stands (annotating t) done levels below s' e same b = (below, refl, same, b)

module _ (s s1 s' : TermStack) (opening : Opening) (terms : List Tree) (left : s ≡ inside opening terms s1) where
  pub closed-base : (opening ≡ Curly → ⊥)
      → ((t : Tree) (below : TermStack) → s1 ≡ with_top t below → s' ≡ with_top (with_children t terms) below)
      → IsClosed s Base s'
  closed-base other given level levels h =
      base-stands level.opened level.done levels h.0 s'
      (λ e. other (sym (same_opening s s1 opening terms left level levels h) ∙ e))
      (given (bearer level.opened) h.0 (same_rest s s1 opening terms left level levels h)
      ∙ ap (λ l. with_top (with_children (bearer level.opened) l) h.0)
      (sym (same_terms s s1 opening terms left level levels h))) h.1

  pub closed-whole : opening ≡ Curly
      → ((t : Tree) (below : TermStack) → s1 ≡ with_top t below → s' ≡ with_top (with_annotations t terms) below)
      → IsClosed s Whole s'
  closed-whole e given level levels h =
      whole-stands level.opened level.done levels h.0 s' (same_opening s s1 opening terms left level levels h ∙ e)
      (given (bearer level.opened) h.0 (same_rest s s1 opening terms left level levels h)
      ∙ ap (λ l. with_top (with_annotations (bearer level.opened) l) h.0)
      (sym (same_terms s s1 opening terms left level levels h))) h.1

pub closed-nothing : (s s' : TermStack) (state : ReaderState) → first_closing s ≡ None → IsClosed s state s'
closed-nothing s s' state e level levels h = let no : None ≡ Some (closing_of level.opened) = sym e
    ∙ closing-inside level levels s h in absurd (cc)

-- ---- the results of calls

pub on_ok : {X : Type 0} (result : Result X ReadFault) (P Q : X → Type 0) → ((x : X) → P x → Q x) → IfOk result P
    → IfOk result Q
on_ok (Ok x) P Q f h = f x h
on_ok (Err e) P Q f h = tt

module _ (state known : ReaderState) (s s' : TermStack) (x text : List ℕ)
    (same : state ≡ known) (trimmed : text ≡ without_blanks x) where
  pub step-leads : (result : Result Progress ReadFault) → length text ≤ length x
      → IfOk result (λ step. ReaderLeads known s text step s') → IfOk result (λ step. ReaderLeads state s x step s')
  step-leads result le =
      on_ok result (λ step. ReaderLeads known s text step s') (λ step. ReaderLeads state s x step s')
      (λ step leads.
      subst (λ k. ReaderLeads k s x step s') (sym same) (leads-trimmed known s s' x text step trimmed le leads))

  pub step-lost : IsLost known s text → IsLost state s x
  step-lost lost = subst (λ k. IsLost k s x) (sym same) (lost-trimmed known s x text trimmed lost)
