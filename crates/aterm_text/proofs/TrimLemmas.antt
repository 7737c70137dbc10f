-- Skipping white space before a token loses nothing.
use Rattle.std.proofs.Common.{◌≡◌, ℕ, Bool, MatchBool, true, false, inl, inr, List, [], ◌∷◌, length, ◌==◌, drop, take, refl, sym, ap, ◌∙◌, subst, arith}
use Rattle.std.proofs.lemmas.Bool.Decides.{nat_tests}
use Rattle.term_core.specs.Word.{first_word}
use Rattle.term_core.specs.Tree.{Tree, Trees, integer, branch, application, list, tuple, none, more, to_list, with_annotations}
use Rattle.aterm_text.specs.Tokens.{is_blank, without_blanks, NextSign, IsInteger, integer_len, NextQuoted, NextWord}
use Rattle.aterm_text.specs.Grammar.{Reads, ReadsUntil, ReadsMore}
use Rattle.aterm_text.specs.inside.Level.{Level, closing_of}
use Rattle.aterm_text.specs.inside.Unread.{Reading, expected, entered, base, whole, Unread, Continues, AfterWhole}
use Rattle.aterm_text.proofs.ScanLemmas.{prefix_len-rest}

pub trimmed : (x : List ℕ) → without_blanks (without_blanks x) ≡ without_blanks x
trimmed x = ap (λ n. drop n (without_blanks x)) (prefix_len-rest is_blank x)

-- the end of a text, if no white space comes next
pub no_more : (x : List ℕ) → (length x == 0) ≡ true → without_blanks x ≡ []
no_more [] e = refl
no_more (b ∷ x) e = let zero : length (b ∷ x) ≡ 0 = grind (arith, nat_tests) in absurd (omega (arith, zero))

pub some_more : (x : List ℕ) → without_blanks x ≡ x → (length x == 0) ≡ false → without_blanks x ≡ [] → ⊥
some_more x trim e nothing =
    let empty : x ≡ [] = sym trim ∙ nothing in
    let no : false ≡ true = sym e ∙ ap (λ l. length l == 0) empty in
    cc

-- ---- two texts that differ only in leading white space

module _ (x y : List ℕ) (same : without_blanks x ≡ without_blanks y) where
  sign_in : (sign : ℕ) (a : List ℕ) → NextSign sign x a → NextSign sign y a
  sign_in sign a h = sym same ∙ h

  name_part : (quoted : Bool) (bytes a : List ℕ) → MatchBool quoted (NextQuoted bytes x a) (NextWord bytes x a)
      → MatchBool quoted (NextQuoted bytes y a) (NextWord bytes y a)
  name_part true bytes a h = (h.0, sign_in 34 h.0 h.1, h.2)
  name_part false bytes a h = ap first_word (sym same) ∙ h

  pub reads_in : (t : Tree) (z : List ℕ) → Reads t x z → Reads t y z
  reads_in (integer v notes) z h =
      (h.0, (subst (λ l. IsInteger (take (integer_len l) l) v × (h.0 ≡ drop (integer_len l) l)) same h.1), h.2)
  reads_in (branch (application name) kids notes) z h = (h.0, name_part name.is_quoted name.text h.0 h.1, h.2)
  reads_in (branch list kids notes) z h = (h.0, sign_in 91 h.0 h.1, h.2)
  reads_in (branch tuple kids notes) z h = (h.0, sign_in 40 h.0 h.1, h.2)

  until_in : (ts : Trees) (close : ℕ) (z : List ℕ) → ReadsUntil ts close x z → ReadsUntil ts close y z
  until_in none close z h = sign_in close z h
  until_in (more t ts) close z h = (h.0, reads_in t h.0 h.1, h.2)

  more_in : (ts : Trees) (close : ℕ) (z : List ℕ) → ReadsMore ts close x z → ReadsMore ts close y z
  more_in none close z h = sign_in close z h
  more_in (more t ts) close z h = (h.0, sign_in 44 h.0 h.1, h.2)

  whole_in : (levels : List Level) (t all : Tree) → AfterWhole levels t x all → AfterWhole levels t y all
  whole_in [] t all h = (sym same ∙ h.0, h.1)
  whole_in (level ∷ levels) t all h = (h.0, h.1, more_in h.0 (closing_of level.opened) h.1 h.2, h.3)

module _ (x y : List ℕ) (same : without_blanks x ≡ without_blanks y) where
  base_in : (levels : List Level) (t all : Tree) → Unread (base t) levels x all → Unread (base t) levels y all
  base_in levels t all h = elim h.2 [
    | inl opened ↦ (h.0, h.1, inl (opened.0, sign_in x y same 123 opened.0 opened.1, opened.2), h.3)
    | inr bare ↦ (
      h.0,
      y,
      inr ((λ a next. bare.0 a (sign_in y x (sym same) 123 a next)), bare.1, refl),
      whole_in x y same levels (with_annotations t (to_list h.0)) all
          (subst (λ l. AfterWhole levels (with_annotations t (to_list h.0)) l all) bare.2 h.3),
    )
  ]

  pub unread_in : (r : Reading) (levels : List Level) (all : Tree) → Unread r levels x all → Unread r levels y all
  unread_in expected levels all h = (h.0, h.1, reads_in x y same h.0 h.1 h.2, h.3)
  unread_in entered [] all h = h
  unread_in entered (level ∷ levels) all h = (h.0, h.1, until_in x y same h.0 (closing_of level.opened) h.1 h.2, h.3)
  unread_in (base t) levels all h = base_in levels t all h
  unread_in (whole t) levels all h = whole_in x y same levels t all h

pub continues-trimmed : (r : Reading) (levels : List Level) (x : List ℕ)
    → Continues r levels x r levels (without_blanks x)
continues-trimmed r levels x = record {
  forth = unread_in x (without_blanks x) (sym (trimmed x)) r levels;
  back = unread_in (without_blanks x) x (trimmed x) r levels;
}
