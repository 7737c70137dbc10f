-- Each step of the machine loses nothing: what the rest had to spell before is what it has to spell
-- afterwards.
use Rattle.std.proofs.Common.{◌≡◌, ℕ, ℤ, inl, inr, List, [], ◌∷◌, ◌++◌, refl, sym, ap, ◌∙◌, subst, arith, append_assoc, append-nil}
use Rattle.term_core.specs.Tree.{Symbol, Head, application, list, tuple, Tree, Trees, integer, branch, none, more, to_list, of_list, integer_term, application_term, with_annotations}
use Rattle.term_core.proofs.TreeLemmas.{of_list-to_list}
use Rattle.aterm_text.specs.Tokens.{NextSign, NextInteger, NextName, IsBlank}
use Rattle.aterm_text.specs.Grammar.{Reads, ReadsUntil, ReadsMore, Optional}
use Rattle.aterm_text.specs.inside.Beginnings.{Beginning, an_integer, a_name, a_list, a_tuple, Begins}
use Rattle.aterm_text.proofs.TokenLemmas.{NoTerm, class_of, begins_only, no_term-sign}
use Rattle.aterm_text.specs.inside.Level.{Bracket, arguments, elements, components, annotating, Level, closing_of}
use Rattle.aterm_text.specs.inside.Unread.{Reading, expected, entered, base, whole, Unread, Continues, IsStuck, IsEnd, AfterBase, AfterClosed, AfterWhole, BeforeTerm, closed}

-- a bracket that was just opened
abbrev pub new_level : Bracket → Level
new_level opened = record { opened = opened; done = [] }

-- the level with one more term
abbrev pub with_term : Level → Tree → Level
with_term level t = record { opened = level.opened; done = level.done ++ t ∷ [] }

-- ---- signs and beginnings

pub sign_only : (sign : ℕ) (x y z : List ℕ) → NextSign sign x y → NextSign sign x z → y ≡ z
sign_only sign x y z h k = let same : ◌≡◌ {A = List ℕ} (sign ∷ y) (sign ∷ z) = sym h ∙ k in cc

pub same_sign : (s r : ℕ) (x y z : List ℕ) → NextSign s x y → NextSign r x z → s ≡ r
same_sign s r x y z h k = let same : ◌≡◌ {A = List ℕ} (s ∷ y) (r ∷ z) = sym h ∙ k in cc

abbrev pub beginning_at : Tree → Beginning
beginning_at (integer z notes) = an_integer z
beginning_at (branch (application name) kids notes) = a_name name
beginning_at (branch list kids notes) = a_list
beginning_at (branch tuple kids notes) = a_tuple

-- the text after the beginning of a term
pub reads-begins : (t : Tree) (x y : List ℕ) → Reads t x y → (a : List ℕ) × Begins (beginning_at t) x a
reads-begins (integer z notes) x y h = (h.0, h.1)
reads-begins (branch (application name) kids notes) x y h = (h.0, h.1)
reads-begins (branch list kids notes) x y h = (h.0, h.1)
reads-begins (branch tuple kids notes) x y h = (h.0, h.1)

-- a term that begins at x has the beginning found there
pub beginning_is : (beginning : Beginning) (t : Tree) (x y z : List ℕ) → Begins beginning x y → Reads t x z
    → beginning ≡ beginning_at t
beginning_is beginning t x y z h r = let found = reads-begins t x z r in
    (begins_only beginning (beginning_at t) x y found.0 h found.1).0

pub no_term-reads : (t : Tree) (x y : List ℕ) → NoTerm x → Reads t x y → ⊥
no_term-reads t x y absent r = let found = reads-begins t x y r in absent (beginning_at t) found.0 found.1

closing-class : (o : Bracket) → class_of (closing_of o) ≡ 0
closing-class (arguments name) = refl
closing-class elements = refl
closing-class components = refl
closing-class (annotating t) = refl

closing-comma : (o : Bracket) → closing_of o ≡ 44 → ⊥
closing-comma (arguments name) e = omega arith
closing-comma elements e = omega arith
closing-comma components e = omega arith
closing-comma (annotating t) e = omega arith

-- ---- the result of closing

abbrev Outside : List Level → Tree → List ℕ → Tree → Type 0
Outside levels = λ t x all. AfterWhole levels t x all

to_unread : (o : Bracket) (us : List Tree) (levels : List Level) (x : List ℕ) (all : Tree)
    → AfterClosed (Outside levels) o us x all → Unread (closed o us) levels x all
to_unread (arguments name) us levels x all h = h
to_unread elements us levels x all h = h
to_unread components us levels x all h = h
to_unread (annotating t) us levels x all h = h

from_unread : (o : Bracket) (us : List Tree) (levels : List Level) (x : List ℕ) (all : Tree)
    → Unread (closed o us) levels x all → AfterClosed (Outside levels) o us x all
from_unread (arguments name) us levels x all h = h
from_unread elements us levels x all h = h
from_unread components us levels x all h = h
from_unread (annotating t) us levels x all h = h

-- ---- a beginning was read

pub stuck-no_term : (levels : List Level) (x : List ℕ) → NoTerm x → IsStuck expected levels x
stuck-no_term levels x absent all h = no_term-reads h.0 x h.1 absent h.2

rebuilt : (head : Head) (kids notes : Trees)
    → branch head kids notes ≡ branch head (of_list (to_list kids)) (of_list (to_list notes))
rebuilt head kids notes = λ i. branch head (sym (of_list-to_list kids) i) (sym (of_list-to_list notes) i)

module _ (levels : List Level) (x y : List ℕ) where
  integer-forth : (z : ℤ) → NextInteger z x y → (all t : Tree) (v : List ℕ) → Reads t x v → AfterWhole levels t v all
      → AfterBase (Outside levels) (integer_term z) y all
  integer-forth z h all (integer w notes) v r b =
      let only = begins_only (an_integer z) (an_integer w) x y r.0 h r.1 in
      let same : w ≡ z = cc in (
        notes,
        v,
        subst (λ a. Optional 123 (λ p q. ReadsUntil notes 125 p q) notes a v) (sym only.1) r.2,
        subst (λ t. AfterWhole levels t v all) (λ i. integer (same i) (sym (of_list-to_list notes) i)) b,
      )
  integer-forth z h all (branch (application name) kids notes) v r b = let no =
      beginning_is (an_integer z) (branch (application name) kids notes) x y v h r in absurd (cc)
  integer-forth z h all (branch list kids notes) v r b = let no =
      beginning_is (an_integer z) (branch list kids notes) x y v h r in absurd (cc)
  integer-forth z h all (branch tuple kids notes) v r b = let no =
      beginning_is (an_integer z) (branch tuple kids notes) x y v h r in absurd (cc)

  pub step-integer : (z : ℤ) → NextInteger z x y → Continues expected levels x (base (integer_term z)) levels y
  step-integer z h = record {
    forth = λ all k. integer-forth z h all k.0 k.1 k.2 k.3;
    back = λ all k. (
      integer z k.0,
      k.1,
      (y, h, k.2),
      subst (λ t. AfterWhole levels t k.1 all) (λ i. integer z (of_list-to_list k.0 i)) k.3,
    );
  }

  list-forth : NextSign 91 x y → (all t : Tree) (v : List ℕ) → Reads t x v → AfterWhole levels t v all
      → Unread entered (new_level elements ∷ levels) y all
  list-forth h all (branch list kids notes) v r b = (
    kids,
    r.2.0,
    subst (λ a. ReadsUntil kids 93 a r.2.0) (sign_only 91 x r.0 y r.1 h) r.2.1,
    (notes, v, r.2.2, subst (λ t. AfterWhole levels t v all) (rebuilt list kids notes) b),
  )
  list-forth h all (integer z notes) v r b = let no = beginning_is a_list (integer z notes) x y v h r in absurd (cc)
  list-forth h all (branch (application name) kids notes) v r b = let no =
      beginning_is a_list (branch (application name) kids notes) x y v h r in absurd (cc)
  list-forth h all (branch tuple kids notes) v r b = let no = beginning_is a_list (branch tuple kids notes) x y v h r in
      absurd (cc)

  pub step-list : NextSign 91 x y → Continues expected levels x entered (new_level elements ∷ levels) y
  step-list h = record {
    forth = λ all k. list-forth h all k.0 k.1 k.2 k.3;
    back = λ all k. (
      branch list k.0 k.3.0,
      k.3.1,
      (y, h, (k.1, k.2, k.3.2)),
      subst (λ t. AfterWhole levels t k.3.1 all) (sym (rebuilt list k.0 k.3.0)) k.3.3,
    );
  }

  tuple-forth : NextSign 40 x y → (all t : Tree) (v : List ℕ) → Reads t x v → AfterWhole levels t v all
      → Unread entered (new_level components ∷ levels) y all
  tuple-forth h all (branch tuple kids notes) v r b = (
    kids,
    r.2.0,
    subst (λ a. ReadsUntil kids 41 a r.2.0) (sign_only 40 x r.0 y r.1 h) r.2.1,
    (notes, v, r.2.2, subst (λ t. AfterWhole levels t v all) (rebuilt tuple kids notes) b),
  )
  tuple-forth h all (integer z notes) v r b = let no = beginning_is a_tuple (integer z notes) x y v h r in absurd (cc)
  tuple-forth h all (branch (application name) kids notes) v r b = let no =
      beginning_is a_tuple (branch (application name) kids notes) x y v h r in absurd (cc)
  tuple-forth h all (branch list kids notes) v r b = let no = beginning_is a_tuple (branch list kids notes) x y v h r in
      absurd (cc)

  pub step-tuple : NextSign 40 x y → Continues expected levels x entered (new_level components ∷ levels) y
  step-tuple h = record {
    forth = λ all k. tuple-forth h all k.0 k.1 k.2 k.3;
    back = λ all k. (
      branch tuple k.0 k.3.0,
      k.3.1,
      (y, h, (k.1, k.2, k.3.2)),
      subst (λ t. AfterWhole levels t k.3.1 all) (sym (rebuilt tuple k.0 k.3.0)) k.3.3,
    );
  }

-- ---- a name was read

module _ (levels : List Level) (name : Symbol) (x a : List ℕ) (h : NextName name x a) where
  arguments-forth : (y : List ℕ) → NextSign 40 a y → (all t : Tree) (v : List ℕ) → Reads t x v
      → AfterWhole levels t v all → Unread entered (new_level (arguments name) ∷ levels) y all
  arguments-forth y next all (integer z notes) v r b = let no =
      beginning_is (a_name name) (integer z notes) x a v h r in absurd (cc)
  arguments-forth y next all (branch list kids notes) v r b = let no =
      beginning_is (a_name name) (branch list kids notes) x a v h r in absurd (cc)
  arguments-forth y next all (branch tuple kids notes) v r b = let no =
      beginning_is (a_name name) (branch tuple kids notes) x a v h r in absurd (cc)
  arguments-forth y next all (branch (application other) kids notes) v r b =
      let only = begins_only (a_name other) (a_name name) x r.0 a r.1 h in
      let same : other ≡ name = cc in
      elim r.2.1 [
        | inl opened ↦
            let rest : opened.0 ≡ y =
            sign_only 40 r.0 opened.0 y opened.1 (subst (λ l. NextSign 40 l y) (sym only.1) next) in (
              kids,
              r.2.0,
              subst (λ l. ReadsUntil kids 41 l r.2.0) rest opened.2,
              (
                notes,
                v,
                r.2.2,
                subst (λ t. AfterWhole levels t v all) (λ i.
                    branch (application (same i)) (sym (of_list-to_list kids) i) (sym (of_list-to_list notes) i)) b,
              ),
            )
        | inr bare ↦ absurd (bare.0 y (subst (λ l. NextSign 40 l y) (sym only.1) next))
      ]

  pub step-arguments : (y : List ℕ) → NextSign 40 a y
      → Continues expected levels x entered (new_level (arguments name) ∷ levels) y
  step-arguments y next = record {
    forth = λ all k. arguments-forth y next all k.0 k.1 k.2 k.3;
    back = λ all k. (
      branch (application name) k.0 k.3.0,
      k.3.1,
      (a, h, (k.1, inl (y, next, k.2), k.3.2)),
      subst (λ t. AfterWhole levels t k.3.1 all) (sym (rebuilt (application name) k.0 k.3.0)) k.3.3,
    );
  }

  constant-forth : ((y : List ℕ) → NextSign 40 a y → ⊥) → (all t : Tree) (v : List ℕ) → Reads t x v
      → AfterWhole levels t v all → AfterBase (Outside levels) (application_term name []) a all
  constant-forth no_sign all (integer z notes) v r b = let no =
      beginning_is (a_name name) (integer z notes) x a v h r in absurd (cc)
  constant-forth no_sign all (branch list kids notes) v r b = let no =
      beginning_is (a_name name) (branch list kids notes) x a v h r in absurd (cc)
  constant-forth no_sign all (branch tuple kids notes) v r b = let no =
      beginning_is (a_name name) (branch tuple kids notes) x a v h r in absurd (cc)
  constant-forth no_sign all (branch (application other) kids notes) v r b =
      let only = begins_only (a_name other) (a_name name) x r.0 a r.1 h in
      let same : other ≡ name = cc in
      elim r.2.1 [
        | inl opened ↦ absurd (no_sign opened.0 (subst (λ l. NextSign 40 l opened.0) only.1 opened.1))
        | inr bare ↦ (
          notes,
          v,
          subst (λ l. Optional 123 (λ p q. ReadsUntil notes 125 p q) notes l v) (bare.2 ∙ only.1) r.2.2,
          subst (λ t. AfterWhole levels t v all)
              (λ i. branch (application (same i)) (bare.1 i) (sym (of_list-to_list notes) i)) b,
        )
      ]

  pub step-constant : ((y : List ℕ) → NextSign 40 a y → ⊥) → Continues expected levels x
      (base (application_term name [])) levels a
  step-constant no_sign = record {
    forth = λ all k. constant-forth no_sign all k.0 k.1 k.2 k.3;
    back = λ all k. (
      branch (application name) none k.0,
      k.1,
      (a, h, (a, inr (no_sign, refl, refl), k.2)),
      subst (λ t. AfterWhole levels t k.1 all) (λ i. branch (application name) none (of_list-to_list k.0 i)) k.3,
    );
  }

-- ---- an opening bracket was read

module _ (level : Level) (levels : List Level) (x : List ℕ) where
  closing-forth : (y : List ℕ) → NextSign (closing_of level.opened) x y → (all : Tree) (us : Trees) (v : List ℕ)
      → ReadsUntil us (closing_of level.opened) x v
      → AfterClosed (Outside levels) level.opened (level.done ++ to_list us) v all
      → Unread (closed level.opened level.done) levels y all
  closing-forth y next all none v r b =
      to_unread level.opened level.done levels y all
      (subst (λ l. AfterClosed (Outside levels) level.opened l y all) (append-nil level.done)
      (subst (λ l. AfterClosed (Outside levels) level.opened (level.done ++ []) l all)
      (sign_only (closing_of level.opened) x v y r next) b))
  closing-forth y next all (more t ts) v r b =
      absurd (no_term-reads t x r.0 (no_term-sign (closing_of level.opened) x y (closing-class level.opened) next) r.1)

  pub step-closing : (y : List ℕ) → NextSign (closing_of level.opened) x y
      → Continues entered (level ∷ levels) x (closed level.opened level.done) levels y
  step-closing y next = record {
    forth = λ all k. closing-forth y next all k.0 k.1 k.2 k.3;
    back = λ all k. (
      none,
      y,
      next,
      subst (λ l. AfterClosed (Outside levels) level.opened l y all) (sym (append-nil level.done))
          (from_unread level.opened level.done levels y all k),
    );
  }

  entered-forth : ((y : List ℕ) → NextSign (closing_of level.opened) x y → ⊥) → (all : Tree) (us : Trees) (v : List ℕ)
      → ReadsUntil us (closing_of level.opened) x v
      → AfterClosed (Outside levels) level.opened (level.done ++ to_list us) v all → BeforeTerm (level ∷ levels) x all
  entered-forth absent all none v r b = absurd (absent v r)
  entered-forth absent all (more t ts) v r b = (t, r.0, r.1, (ts, v, r.2, b))

  pub step-entered : ((y : List ℕ) → NextSign (closing_of level.opened) x y → ⊥) → Continues entered (level ∷ levels) x
      expected (level ∷ levels) x
  step-entered absent = record {
    forth = λ all k. entered-forth absent all k.0 k.1 k.2 k.3;
    back = λ all k. (more k.0 k.3.0, k.3.1, (k.1, k.2, k.3.2), k.3.3);
  }

-- ---- a base was read

module _ (levels : List Level) (t : Tree) (x : List ℕ) where
  annotations-forth : (y : List ℕ) → NextSign 123 x y → (all : Tree) → AfterBase (Outside levels) t x all
      → Unread entered (new_level (annotating t) ∷ levels) y all
  annotations-forth y next all k = elim k.2 [
    | inl opened ↦
        (k.0, k.1, subst (λ l. ReadsUntil k.0 125 l k.1) (sign_only 123 x opened.0 y opened.1 next) opened.2, k.3)
    | inr bare ↦ absurd (bare.0 y next)
  ]

  pub step-annotations : (y : List ℕ) → NextSign 123 x y
      → Continues (base t) levels x entered (new_level (annotating t) ∷ levels) y
  step-annotations y next = record {
    forth = annotations-forth y next;
    back = λ all k. (k.0, k.1, inl (y, next, k.2), k.3);
  }

  bare-forth : ((y : List ℕ) → NextSign 123 x y → ⊥) → with_annotations t [] ≡ t → (all : Tree)
      → AfterBase (Outside levels) t x all → AfterWhole levels t x all
  bare-forth absent e all k = elim k.2 [
    | inl opened ↦ absurd (absent opened.0 opened.1)
    | inr bare ↦ subst (λ u. AfterWhole levels u x all) (ap (λ ns. with_annotations t (to_list ns)) bare.1 ∙ e)
        (subst (λ l. AfterWhole levels (with_annotations t (to_list k.0)) l all) bare.2 k.3)
  ]

  pub step-bare : ((y : List ℕ) → NextSign 123 x y → ⊥) → with_annotations t []
      ≡ t → Continues (base t) levels x (whole t) levels x
  step-bare absent e = record {
    forth = bare-forth absent e;
    back = λ all k. (none, x, inr (absent, refl, refl), subst (λ u. AfterWhole levels u x all) (sym e) k);
  }

-- ---- a whole term was read

module _ (level : Level) (levels : List Level) (t : Tree) (x : List ℕ) where
  comma-forth : (y : List ℕ) → NextSign 44 x y → (all : Tree) (us : Trees) (v : List ℕ)
      → ReadsMore us (closing_of level.opened) x v
      → AfterClosed (Outside levels) level.opened (level.done ++ t ∷ to_list us) v all
      → BeforeTerm (with_term level t ∷ levels) y all
  comma-forth y next all none v r b =
      absurd (closing-comma level.opened (same_sign (closing_of level.opened) 44 x v y r next))
  comma-forth y next all (more u us) v r b = (
    u,
    r.2.0,
    subst (λ l. Reads u l r.2.0) (sign_only 44 x r.0 y r.1 next) r.2.1,
    (
      us,
      v,
      r.2.2,
      subst (λ l. AfterClosed (Outside levels) level.opened l v all)
          (sym (append_assoc level.done (t ∷ []) (u ∷ to_list us))) b,
    ),
  )

  pub step-comma : (y : List ℕ) → NextSign 44 x y
      → Continues (whole t) (level ∷ levels) x expected (with_term level t ∷ levels) y
  step-comma y next = record {
    forth = λ all k. comma-forth y next all k.0 k.1 k.2 k.3;
    back = λ all k. (
      more k.0 k.3.0,
      k.3.1,
      (y, next, (k.1, k.2, k.3.2)),
      subst (λ l. AfterClosed (Outside levels) level.opened l k.3.1 all)
          (append_assoc level.done (t ∷ []) (k.0 ∷ to_list k.3.0)) k.3.3,
    );
  }

  close-forth : (y : List ℕ) → NextSign (closing_of level.opened) x y → (all : Tree) (us : Trees) (v : List ℕ)
      → ReadsMore us (closing_of level.opened) x v
      → AfterClosed (Outside levels) level.opened (level.done ++ t ∷ to_list us) v all
      → Unread (closed level.opened (level.done ++ t ∷ [])) levels y all
  close-forth y next all none v r b =
      to_unread level.opened (level.done ++ t ∷ []) levels y all
      (subst (λ l. AfterClosed (Outside levels) level.opened (level.done ++ t ∷ []) l all)
      (sign_only (closing_of level.opened) x v y r next) b)
  close-forth y next all (more u us) v r b =
      absurd (closing-comma level.opened (same_sign (closing_of level.opened) 44 x y r.0 next r.1))

  pub step-close : (y : List ℕ) → NextSign (closing_of level.opened) x y
      → Continues (whole t) (level ∷ levels) x (closed level.opened (level.done ++ t ∷ [])) levels y
  step-close y next = record {
    forth = λ all k. close-forth y next all k.0 k.1 k.2 k.3;
    back = λ all k. (none, y, next, from_unread level.opened (level.done ++ t ∷ []) levels y all k);
  }

  stuck-more : ((y : List ℕ) → NextSign 44 x y → ⊥) → ((y : List ℕ) → NextSign (closing_of level.opened) x y → ⊥)
      → (us : Trees) (v : List ℕ) → ReadsMore us (closing_of level.opened) x v → ⊥
  stuck-more no_comma no_closing none v r = no_closing v r
  stuck-more no_comma no_closing (more u us) v r = no_comma r.0 r.1

  pub stuck-whole : ((y : List ℕ) → NextSign 44 x y → ⊥) → ((y : List ℕ) → NextSign (closing_of level.opened) x y → ⊥)
      → IsStuck (whole t) (level ∷ levels) x
  stuck-whole no_comma no_closing all k = stuck-more no_comma no_closing k.0 k.1 k.2

pub end-whole : (t : Tree) (x : List ℕ) → IsBlank x → IsEnd (whole t) [] x t
end-whole t x blank = record { found = (blank, refl); only = λ all k. k.1 }

-- ---- one step after another

pub continues_on : (a b c : Reading) (la lb lc : List Level) (x y z : List ℕ) → Continues a la x b lb y
    → Continues b lb y c lc z → Continues a la x c lc z
continues_on a b c la lb lc x y z f g =
    record { forth = λ all h. g.forth all (f.forth all h); back = λ all h. f.back all (g.back all h) }

pub stuck_after : (a b : Reading) (la lb : List Level) (x y : List ℕ) → Continues a la x b lb y → IsStuck b lb y
    → IsStuck a la x
stuck_after a b la lb x y c stuck all h = stuck all (c.forth all h)

pub end_after : (a b : Reading) (la lb : List Level) (x y : List ℕ) (t : Tree) → Continues a la x b lb y
    → IsEnd b lb y t → IsEnd a la x t
end_after a b la lb x y t c e = record { found = c.back t e.found; only = λ all h. e.only all (c.forth all h) }
