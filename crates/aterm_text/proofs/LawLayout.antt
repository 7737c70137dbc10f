-- Text over lines reads back.
use Rattle.std.proofs.Common.{◌≡◌, ℕ, ◌+◌, Bool, true, false, if◌then◌else◌, nat_le, List, [], ◌∷◌, ◌++◌, length, drop, replicate, zero, suc, cond, refl, sym, ◌∙◌, subst, arith, append_assoc, Ok, Err, OnOk}
use Rattle.std.specs.declared.result.Result.{Result}
use Rattle.std.specs.List.{prefix_len}
use Rattle.std.proofs.lemmas.List.{append-nil}
use Rattle.term_core.specs.Tree.{Tree, Trees, integer, branch, none, more}
use Rattle.term_core.specs.Terms.{IsTerm, AreTerms}
use Rattle.aterm_text.specs.Tokens.{is_blank, without_blanks}
use Rattle.aterm_text.specs.Grammar.{Reads, ReadsUntil, ReadsMore, Spells}
use Rattle.aterm_text.specs.Printed.{assembled, print}
use Rattle.aterm_text.specs.Layout.{new_line, fitted, pretty, pretty_all, pretty_more}
use Rattle.aterm_text.specs.declared.layout.TheConstants.{LINE_WIDTH}
use Rattle.aterm_text.proofs.TrimLemmas.{reads_in}
use Rattle.aterm_text.proofs.LawPrinted.{Ends, Ends-empty, Ends-comma, Closes, Insides, assembled-reads, reads}

-- ---- white space before a term

skip_by : (q : Bool) (n : ℕ) (b : ℕ) (x : List ℕ) → q ≡ true → drop (cond q (1 + n) 0) (b ∷ x) ≡ drop n x
skip_by true n b x h = let e : 1 + n ≡ suc n = omega arith in rw e refl
skip_by false n b x h = absurd (cc)

skip : (b : ℕ) (x : List ℕ) → is_blank b ≡ true → without_blanks (b ∷ x) ≡ without_blanks x
skip b x h = skip_by (is_blank b) (prefix_len is_blank x) b x h

skip_blanks : (n : ℕ) (x : List ℕ) → without_blanks (replicate n 32 ++ x) ≡ without_blanks x
skip_blanks zero x = refl
skip_blanks (suc n) x = skip 32 (replicate n 32 ++ x) refl ∙ skip_blanks n x

skip_line : (n : ℕ) (x : List ℕ) → without_blanks (new_line n ++ x) ≡ without_blanks x
skip_line n x = skip 10 (replicate n 32 ++ x) refl ∙ skip_blanks n x

-- ---- terms

one_of : (q : Bool) (t : Tree) (x lines y : List ℕ) → Reads t (x ++ y) y → Reads t (lines ++ y) y
    → Reads t ((if q then x else lines) ++ y) y
one_of true t x lines y p r = p
one_of false t x lines y p r = r

fitted-reads : (n : ℕ) (t : Tree) (inner marks y : List ℕ) → IsTerm t → Ends y → Insides t inner marks
    → Reads t (fitted n (print t) (assembled t inner marks) ++ y) y
fitted-reads n t inner marks y h e in_all = one_of (nat_le (n + length (print t)) LINE_WIDTH) t (print t)
    (assembled t inner marks) y (reads t y h e) (assembled-reads t inner marks y h e in_all)

Ends-lines : (n c : ℕ) (us : Trees) (y : List ℕ) → Closes c → Ends (pretty_more n us ++ c ∷ y)
Ends-lines n c none y h = h.ends y
Ends-lines n c (more u us) y h = Ends-comma _

-- a term on a line of its own, and what follows it
on_line : (t : Tree) (n : ℕ) (x y : List ℕ)
    → Reads t (pretty n t ++ (x ++ y)) (x ++ y) → Reads t ((new_line n ++ pretty n t ++ x) ++ y) (x ++ y)
on_line t n x y h =
    rw (append_assoc (new_line n ++ pretty n t) x y ∙ append_assoc (new_line n) (pretty n t) (x ++ y))
    (reads_in (pretty n t ++ (x ++ y)) (new_line n ++ (pretty n t ++ (x ++ y)))
    (sym (skip_line n (pretty n t ++ (x ++ y)))) t (x ++ y) h)

mutual
  reads-lines : (t : Tree) (n : ℕ) (y : List ℕ) → IsTerm t → Ends y → Reads t (pretty n t ++ y) y
  reads-lines (integer z notes) n y h e =
      fitted-reads n (integer z notes) [] (pretty_all (n + 2) notes) y h e (until-lines notes (n + 2) h.1)
  reads-lines (branch head kids notes) n y h e =
      fitted-reads n (branch head kids notes) (pretty_all (n + 2) kids) (pretty_all (n + 2) notes) y h e
      (until-lines kids (n + 2) h.1, until-lines notes (n + 2) h.2)

  until-lines : (ts : Trees) (n : ℕ) → AreTerms ts → (c : ℕ) (y : List ℕ) → Closes c
      → ReadsUntil ts c (pretty_all n ts ++ c ∷ y) y
  until-lines none n h c y closes = closes.sign y
  until-lines (more t ts) n h c y closes = (
    pretty_more n ts ++ c ∷ y,
    on_line t n (pretty_more n ts)
        (c ∷ y) (reads-lines t n (pretty_more n ts ++ c ∷ y) h.0 (Ends-lines n c ts y closes)),
    more-lines ts n h.1 c y closes,
  )

  more-lines : (ts : Trees) (n : ℕ) → AreTerms ts → (c : ℕ) (y : List ℕ) → Closes c
      → ReadsMore ts c (pretty_more n ts ++ c ∷ y) y
  more-lines none n h c y closes = closes.sign y
  more-lines (more t ts) n h c y closes = (
    (new_line n ++ pretty n t ++ pretty_more n ts) ++ c ∷ y,
    refl,
    (
      pretty_more n ts ++ c ∷ y,
      on_line t n (pretty_more n ts)
          (c ∷ y) (reads-lines t n (pretty_more n ts ++ c ∷ y) h.0 (Ends-lines n c ts y closes)),
      more-lines ts n h.1 c y closes,
    ),
  )

pub lines-spell : (t : Tree) → IsTerm t → Spells (pretty 0 t) t
lines-spell t h =
    ([], subst (λ (x : List ℕ). Reads t x []) (append-nil (pretty 0 t)) (reads-lines t 0 [] h Ends-empty), refl)

-- what holds of a text over lines if memory could grow
pub lines-spell-on_ok : {A E : Type 0} (printed : Result A E) (t : Tree) → OnOk printed (IsTerm t)
    → OnOk printed (Spells (pretty 0 t) t)
lines-spell-on_ok (Ok x) t h = lines-spell t h
lines-spell-on_ok (Err e) t h = tt
