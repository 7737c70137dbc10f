-- Printed text reads back.
use Rattle.std.proofs.Common.{◌≡◌, ℕ, List, [], ◌∷◌, ◌++◌, ◌==◌, false, get_or, refl, ap, ◌∙◌, subst, append_assoc, inl, inr, Ok, Err, OnOk}
use Rattle.std.specs.declared.result.Result.{Result}
use Rattle.std.proofs.lemmas.Bool.{eqb-false}
use Rattle.std.specs.Char.{is_ascii_digit}
use Rattle.std.specs.Fmt.{signed_decimal}
use Rattle.std.specs.List.{prefix_len}
use Rattle.term_core.specs.Word.{continues_word}
use Rattle.term_core.specs.Tree.{Tree, Trees, integer, branch, application, list, tuple, none, more}
use Rattle.term_core.specs.Terms.{IsTerm, AreTerms}
use Rattle.aterm_text.specs.Tokens.{NextSign}
use Rattle.aterm_text.specs.Grammar.{Optional, Reads, ReadsUntil, ReadsMore, Spells}
use Rattle.aterm_text.specs.Printed.{assembled, bracketed, print, print_all, print_more, print_name}
use Rattle.aterm_text.proofs.LawTokens.{integer-read, name-read}

-- ---- what may follow a printed term

other_sign : (b c : ℕ) (x a : List ℕ) → (b == c) ≡ false → b ∷ x ≡ c ∷ a → ⊥
other_sign b c x a h e = eqb-false b c h (ap (λ l. get_or l 0 0) e)

-- the start of the text can't belong to a term before it
pub record Ends (x : List ℕ) : Type 0 where
  no_word : prefix_len continues_word x ≡ 0
  no_digit : prefix_len is_ascii_digit x ≡ 0
  no_arguments : (a : List ℕ) → NextSign 40 x a → ⊥
  no_annotations : (a : List ℕ) → NextSign 123 x a → ⊥

pub Ends-empty : Ends []
Ends-empty = record { no_word = refl; no_digit = refl; no_arguments = λ a h. (cc); no_annotations = λ a h. (cc) }

-- a comma, and each closing bracket
pub Ends-comma : (x : List ℕ) → Ends (44 ∷ x)
Ends-comma x = record {
  no_word = refl;
  no_digit = refl;
  no_arguments = λ a h. other_sign 44 40 x a refl h;
  no_annotations = λ a h. other_sign 44 123 x a refl h;
}

pub record Closes (c : ℕ) : Type 0 where
  pub sign : (x : List ℕ) → NextSign c (c ∷ x) x
  pub ends : (x : List ℕ) → Ends (c ∷ x)

Closes-round : Closes 41
Closes-round = record {
  sign = λ x. refl;
  ends = λ x. record {
    no_word = refl;
    no_digit = refl;
    no_arguments = λ a h. other_sign 41 40 x a refl h;
    no_annotations = λ a h. other_sign 41 123 x a refl h;
  };
}

Closes-square : Closes 93
Closes-square = record {
  sign = λ x. refl;
  ends = λ x. record {
    no_word = refl;
    no_digit = refl;
    no_arguments = λ a h. other_sign 93 40 x a refl h;
    no_annotations = λ a h. other_sign 93 123 x a refl h;
  };
}

Closes-curly : Closes 125
Closes-curly = record {
  sign = λ x. refl;
  ends = λ x. record {
    no_word = refl;
    no_digit = refl;
    no_arguments = λ a h. other_sign 125 40 x a refl h;
    no_annotations = λ a h. other_sign 125 123 x a refl h;
  };
}

Ends-more : (c : ℕ) (us : Trees) (y : List ℕ) → Closes c → Ends (print_more us ++ c ∷ y)
Ends-more c none y h = h.ends y
Ends-more c (more u us) y h = Ends-comma _

-- ---- terms in brackets, if there are any

abbrev arguments : Trees → List ℕ → List ℕ
arguments ts inner = bracketed 40 41 ts inner

abbrev annotations : Trees → List ℕ → List ℕ
annotations ts inner = bracketed 123 125 ts inner

optional : (o c : ℕ) (ts : Trees) (inner y : List ℕ) → ((x : List ℕ) → NextSign o (o ∷ x) x)
    → ((a : List ℕ) → NextSign o y a → ⊥) → ReadsUntil ts c (inner ++ c ∷ y) y →
    Optional o (λ u v. ReadsUntil ts c u v) ts (bracketed o c ts inner ++ y) y
optional o c none inner y sign ends r = inr (ends, refl, refl)
optional o c (more t ts) inner y sign ends r =
    inl ((inner ++ c ∷ []) ++ y, sign _, rw (append_assoc inner (c ∷ []) y) r)

annotated : (ts : Trees) (inner y : List ℕ) → Ends y → ReadsUntil ts 125 (inner ++ 125 ∷ y) y
    → Optional 123 (λ u v. ReadsUntil ts 125 u v) ts (annotations ts inner ++ y) y
annotated ts inner y h r = optional 123 125 ts inner y (λ x. refl) h.no_annotations r

-- what follows a term without its annotations
no_word-annotations : (ts : Trees) (inner y : List ℕ) → Ends y
    → prefix_len continues_word (annotations ts inner ++ y) ≡ 0
no_word-annotations none inner y h = h.no_word
no_word-annotations (more t ts) inner y h = refl

no_digit-annotations : (ts : Trees) (inner y : List ℕ) → Ends y
    → prefix_len is_ascii_digit (annotations ts inner ++ y) ≡ 0
no_digit-annotations none inner y h = h.no_digit
no_digit-annotations (more t ts) inner y h = refl

no_arguments-annotations : (ts : Trees) (inner y : List ℕ) → Ends y → (a : List ℕ)
    → NextSign 40 (annotations ts inner ++ y) a → ⊥
no_arguments-annotations none inner y h a n = h.no_arguments a n
no_arguments-annotations (more t ts) inner y h a n = other_sign 123 40 _ a refl n

no_word-arguments : (ts : Trees) (inner y : List ℕ)
    → prefix_len continues_word y ≡ 0 → prefix_len continues_word (arguments ts inner ++ y) ≡ 0
no_word-arguments none inner y h = h
no_word-arguments (more t ts) inner y h = refl

-- ---- a term, from texts of its children and of its annotations

-- the text and any closing bracket read as these terms
abbrev pub Inside : Trees → List ℕ → Type 0
Inside ts inner = (c : ℕ) (y : List ℕ) → Closes c → ReadsUntil ts c (inner ++ c ∷ y) y

abbrev pub Insides : Tree → List ℕ → List ℕ → Type 0
Insides (integer z notes) inner marks = Inside notes marks
Insides (branch head kids notes) inner marks = Inside kids inner × Inside notes marks

pub assembled-reads : (t : Tree) (inner marks y : List ℕ) → IsTerm t → Ends y → Insides t inner marks
    → Reads t (assembled t inner marks ++ y) y
assembled-reads (integer z notes) inner marks y h e in_all = (
  annotations notes marks ++ y,
  rw (append_assoc (signed_decimal z) (annotations notes marks) y)
      (integer-read z _ h.0 (no_digit-annotations notes marks y e)),
  annotated notes marks y e (in_all 125 y Closes-curly),
)
assembled-reads (branch (application name) kids notes) inner marks y h e in_all =
    let rest : List ℕ = annotations notes marks ++ y in (
      arguments kids inner ++ rest,
      rw (append_assoc (print_name name ++ arguments kids inner) (annotations notes marks) y
          ∙ append_assoc (print_name name) (arguments kids inner) rest)
          (name-read name (arguments kids inner ++ rest) h.0
          (no_word-arguments kids inner rest (no_word-annotations notes marks y e))),
      (
        rest,
        optional 40 41 kids inner rest (λ x. refl) (no_arguments-annotations notes marks y e)
            (in_all.0 41 rest Closes-round),
        annotated notes marks y e (in_all.1 125 y Closes-curly),
      ),
    )
assembled-reads (branch list kids notes) inner marks y h e in_all =
    let rest : List ℕ = annotations notes marks ++ y in (
      inner ++ 93 ∷ rest,
      ap (λ l. 91 ∷ l) (append_assoc inner (93 ∷ annotations notes marks) y),
      (rest, in_all.0 93 rest Closes-square, annotated notes marks y e (in_all.1 125 y Closes-curly)),
    )
assembled-reads (branch tuple kids notes) inner marks y h e in_all =
    let rest : List ℕ = annotations notes marks ++ y in (
      inner ++ 41 ∷ rest,
      ap (λ l. 40 ∷ l) (append_assoc inner (41 ∷ annotations notes marks) y),
      (rest, in_all.0 41 rest Closes-round, annotated notes marks y e (in_all.1 125 y Closes-curly)),
    )

-- ---- terms

mutual
  pub reads : (t : Tree) (y : List ℕ) → IsTerm t → Ends y → Reads t (print t ++ y) y
  reads (integer z notes) y h e = assembled-reads (integer z notes) [] (print_all notes) y h e (reads_until notes h.1)
  reads (branch (application name) kids notes) y h e = assembled-reads (branch (application name) kids notes)
      (print_all kids) (print_all notes) y h e (reads_until kids h.1, reads_until notes h.2)
  reads (branch list kids notes) y h e = assembled-reads (branch list kids notes) (print_all kids) (print_all notes) y h
      e (reads_until kids h.1, reads_until notes h.2)
  reads (branch tuple kids notes) y h e = assembled-reads (branch tuple kids notes) (print_all kids) (print_all notes) y
      h e (reads_until kids h.1, reads_until notes h.2)

  reads_until : (ts : Trees) → AreTerms ts → (c : ℕ) (y : List ℕ) → Closes c → ReadsUntil ts c (print_all ts ++ c ∷ y) y
  reads_until none h c y closes = closes.sign y
  reads_until (more t ts) h c y closes = (
    print_more ts ++ c ∷ y,
    rw (append_assoc (print t) (print_more ts) (c ∷ y))
        (reads t (print_more ts ++ c ∷ y) h.0 (Ends-more c ts y closes)),
    reads_more ts h.1 c y closes,
  )

  reads_more : (ts : Trees) → AreTerms ts → (c : ℕ) (y : List ℕ) → Closes c → ReadsMore ts c (print_more ts ++ c ∷ y) y
  reads_more none h c y closes = closes.sign y
  reads_more (more t ts) h c y closes = (
    (print t ++ print_more ts) ++ c ∷ y,
    refl,
    (
      print_more ts ++ c ∷ y,
      rw (append_assoc (print t) (print_more ts) (c ∷ y))
          (reads t (print_more ts ++ c ∷ y) h.0 (Ends-more c ts y closes)),
      reads_more ts h.1 c y closes,
    ),
  )

append-nil : (a : List ℕ) → a ++ [] ≡ a
append-nil [] = refl
append-nil (x ∷ xs) = ap (λ l. x ∷ l) (append-nil xs)

pub printed-spells : (t : Tree) → IsTerm t → Spells (print t) t
printed-spells t h = ([], subst (λ (x : List ℕ). Reads t x []) (append-nil (print t)) (reads t [] h Ends-empty), refl)

-- what holds of a printed text if memory could grow
pub spells-on_ok : {A E : Type 0} (printed : Result A E) (t : Tree) → OnOk printed (IsTerm t)
    → OnOk printed (Spells (print t) t)
spells-on_ok (Ok x) t h = printed-spells t h
spells-on_ok (Err e) t h = tt
