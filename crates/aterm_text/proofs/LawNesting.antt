-- Printed text nests no deeper than the term is high.
use Rattle.std.proofs.Common.{◌≡◌, ℕ, ℤ, pos, negsuc, ◌+◌, ◌-◌, ◌/◌, ◌%◌, ◌^◌, ◌<◌, ◌≤◌, ◌==◌, ◌||◌, ◌&&◌, max, Bool, true, false, IsTrue, if◌then◌else◌, nat_lt, List, [], ◌∷◌, ◌++◌, suc, refl, sym, ap, ◌∙◌, subst, arith, append_assoc, append-nil, inl, inr}
use Rattle.std.proofs.lemmas.Bool.{ne_eqb}
use Rattle.std.proofs.lemmas.Bool.Decides.{eqb_tells}
use Rattle.std.specs.Prelude.{FitsSigned}
use Rattle.std.specs.Int.{w64}
use Rattle.std.specs.Char.{is_ascii_digit}
use Rattle.std.specs.Fmt.{decimal, signed_decimal}
use Rattle.std.specs.List.{list_all, flat_map, AllByRecursion}
use Rattle.term_core.specs.Word.{begins_word, continues_word, is_word}
use Rattle.term_core.specs.Tree.{Symbol, Tree, Trees, integer, branch, application, list, tuple, none, more}
use Rattle.term_core.specs.Terms.{IsTerm, AreTerms, IsName}
use Rattle.term_core.specs.Size.{height, heights}
use Rattle.aterm_text.specs.Nesting.{outside_quotes, inside_quotes, open_after, greatest_open, nesting}
use Rattle.aterm_text.specs.Printed.{escaped, octal_escape, print_name, bracketed, print, print_all, print_more}
use Rattle.aterm_text.specs.Laws.{PrintedTextNests}
use Rattle.aterm_text.proofs.LawTokens.{both, other_byte, decimal_digits}

-- ---- how deep a text nests before a text that begins with as many open brackets

record Nests (x : List ℕ) (m : ℕ) : Type 0 where
  most : (n : ℕ) (y : List ℕ)
      → greatest_open n (outside_quotes (x ++ y)) ≤ max (n + m) (greatest_open n (outside_quotes y))

nests-empty : (m : ℕ) → Nests [] m
nests-empty m = record { most = λ n y. omega arith }

nests-append : (x z : List ℕ) (m k : ℕ) → Nests x m → Nests z k → Nests (x ++ z) (max m k)
nests-append x z m k h g = record {
  most = λ n y. subst
      (λ (w : List ℕ). greatest_open n (outside_quotes w) ≤ max (n + max m k) (greatest_open n (outside_quotes y)))
      (sym (append_assoc x z y))
      (omega (arith, h.most n (z ++ y), g.most n y));
}

nests-higher : (x : List ℕ) (m k : ℕ) → m ≤ k → Nests x m → Nests x k
nests-higher x m k le h = record { most = λ n y. omega (arith, h.most n y, le) }

-- skipped bytes, up to their end
nests-skipped : (x : List ℕ) → ((y : List ℕ) → outside_quotes (x ++ y) ≡ outside_quotes y) → Nests x 0
nests-skipped x h = record {
  most = λ n y. subst (λ (w : List ℕ). greatest_open n w ≤ max (n + 0) (greatest_open n (outside_quotes y))) (sym (h y))
      (omega arith);
}

-- ---- bytes that are no brackets and no quotes

record IsPlain (b : ℕ) : Type 0 where
  no_quote : (b == 34) ≡ false
  same : (n : ℕ) → open_after b n ≡ n

nests-plain : (b m : ℕ) (x : List ℕ) → IsPlain b → Nests x m → Nests (b ∷ x) m
nests-plain b m x p h = record {
  most = λ n y. rw (p.no_quote, p.same n) (omega (arith, h.most n y));
}

-- a byte that passes a test that quotes and brackets fail
plain-passes : (p : ℕ → Bool) (b : ℕ) → p 34 ≡ false → p 40 ≡ false → p 91 ≡ false → p 123 ≡ false → p 41 ≡ false → p 93
    ≡ false → p 125 ≡ false → p b ≡ true → IsPlain b
plain-passes p b q n0 n1 n2 n3 n4 n5 t = record {
  no_quote = other_byte p 34 b q t;
  same = λ n. rw (
    other_byte p 40 b n0 t,
    other_byte p 91 b n1 t,
    other_byte p 123 b n2 t,
    other_byte p 41 b n3 t,
    other_byte p 93 b n4 t,
    other_byte p 125 b n5 t,
  ) refl;
}

digit-plain : (b : ℕ) → is_ascii_digit b ≡ true → IsPlain b
digit-plain b t = plain-passes is_ascii_digit b refl refl refl refl refl refl refl t

begins-plain : (b : ℕ) → begins_word b ≡ true → IsPlain b
begins-plain b t = plain-passes begins_word b refl refl refl refl refl refl refl t

continues-plain : (b : ℕ) → continues_word b ≡ true → IsPlain b
continues-plain b t = plain-passes continues_word b refl refl refl refl refl refl refl t

nests-all : (p : ℕ → Bool) → ((b : ℕ) → p b ≡ true → IsPlain b) → (s : List ℕ) → list_all p s ≡ true → Nests s 0
nests-all p h [] t = nests-empty 0
nests-all p h (b ∷ s) t = let parts = both (p b) (list_all p s) t in
    nests-plain b 0 s (h b parts.0) (nests-all p h s parts.1)

-- ---- brackets

record IsBrackets (o c : ℕ) : Type 0 where
  opens : (n : ℕ) → open_after o n ≡ n + 1
  closes : (n : ℕ) → open_after c (n + 1) ≡ n
  no_quote : (o == 34) ≡ false
  no_end : (c == 34) ≡ false

one_less : (n : ℕ) → n + 1 - 1 ≡ n
one_less n = omega arith

round : IsBrackets 40 41
round = record { opens = λ n. refl; closes = λ n. one_less n; no_quote = refl; no_end = refl }

square : IsBrackets 91 93
square = record { opens = λ n. refl; closes = λ n. one_less n; no_quote = refl; no_end = refl }

curly : IsBrackets 123 125
curly = record { opens = λ n. refl; closes = λ n. one_less n; no_quote = refl; no_end = refl }

opened : (o n : ℕ) (x : List ℕ) → (o == 34) ≡ false → open_after o n
    ≡ n + 1 → greatest_open n (outside_quotes (o ∷ x)) ≡ max n (greatest_open (n + 1) (outside_quotes x))
opened o n x q e = rw (q, e) refl

closed : (c n : ℕ) (x : List ℕ) → (c == 34) ≡ false → open_after c
    (n + 1) ≡ n → greatest_open (n + 1) (outside_quotes (c ∷ x)) ≡ max (n + 1) (greatest_open n (outside_quotes x))
closed c n x q e = rw (q, e) refl

nests-enclosed : (o c m : ℕ) (x : List ℕ) → IsBrackets o c → Nests x m → Nests (o ∷ (x ++ c ∷ [])) (m + 1)
nests-enclosed o c m x b h = record {
  most = λ n y. subst (λ (w : List ℕ).
      greatest_open n (outside_quotes (o ∷ w)) ≤ max (n + (m + 1)) (greatest_open n (outside_quotes y)))
      (sym (append_assoc x (c ∷ []) y))
      (omega (
        arith,
        opened o n (x ++ c ∷ y) b.no_quote (b.opens n),
        closed c n y b.no_end (b.closes n),
        h.most (n + 1) (c ∷ y),
      ));
}

nests-bracketed : (o c m : ℕ) (ts : Trees) (x : List ℕ) → IsBrackets o c → Nests x m
    → Nests (bracketed o c ts x) (m + 1)
nests-bracketed o c m none x b h = nests-empty (m + 1)
nests-bracketed o c m (more t ts) x b h = nests-enclosed o c m x b h

-- ---- quoted names

plain_skipped : (q : Bool) (b : ℕ) (y : List ℕ) → b < 256 → (b == 34) ≡ false → (b == 92) ≡ false
    → inside_quotes ((if q then b ∷ [] else octal_escape b) ++ y) ≡ inside_quotes y
plain_skipped true b y h quote backslash = rw (quote, backslash) refl
plain_skipped false b y h quote backslash =
    rw (
      ne_eqb (48 + b / 8 % 8) 34 (λ e. omega arith),
      ne_eqb (48 + b / 8 % 8) 92 (λ e. omega arith),
      ne_eqb (48 + b % 8) 34 (λ e. omega arith),
      ne_eqb (48 + b % 8) 92 (λ e. omega arith),
    ) refl

item_skipped : (b : ℕ) (y : List ℕ) → b < 256 → inside_quotes (escaped b ++ y) ≡ inside_quotes y
item_skipped b y h =
    elim (eqb_tells b 34) [
      | inl is ↦ rw is.0 refl
      | inr quote ↦
          elim (eqb_tells b 92) [
            | inl is ↦ rw (quote.0, is.0) refl
            | inr backslash ↦ rw (quote.0, backslash.0) (rest _
                (b == 10) (b == 9) (b == 13) (plain_skipped (nat_lt 31 b && nat_lt b 127) b y h quote.0 backslash.0))
          ]
    ]
  where
    rest : (x : List ℕ) (p q r : Bool) → inside_quotes (x ++ y) ≡ inside_quotes y →
        inside_quotes ((if p then 92 ∷ (110 ∷ []) else if q then 92 ∷ (116 ∷ []) else if r then 92 ∷ (114 ∷ []) else x)
        ++ y) ≡ inside_quotes y
    rest x true q r e = refl
    rest x false true r e = refl
    rest x false false true e = refl
    rest x false false false e = e

items_skipped : (s y : List ℕ) → AllByRecursion (λ b. b < 256) s
    → inside_quotes (flat_map escaped s ++ 34 ∷ y) ≡ outside_quotes y
items_skipped [] y h = refl
items_skipped (b ∷ s) y h =
    ap inside_quotes (append_assoc (escaped b) (flat_map escaped s) (34 ∷ y)) ∙ item_skipped b
    (flat_map escaped s ++ 34 ∷ y) h.0 ∙ items_skipped s y h.1

nests-word : (s : List ℕ) → IsTrue (is_word s) → Nests s 0
nests-word [] h = absurd (cc)
nests-word (b ∷ s) h =
    let parts : (begins_word b ≡ true) × (list_all continues_word s ≡ true) =
    both (begins_word b) (list_all continues_word s) h in
    nests-plain b 0 s (begins-plain b parts.0) (nests-all continues_word continues-plain s parts.1)

name_from : (q : Bool) (s : List ℕ) → AllByRecursion (λ b. b < 256) s → IsTrue (q || is_word s)
    → Nests (if q then 34 ∷ (flat_map escaped s ++ 34 ∷ []) else s) 0
name_from true s bytes word = nests-skipped (34 ∷ (flat_map escaped s ++ 34 ∷ []))
    (λ y. ap inside_quotes (append_assoc (flat_map escaped s) (34 ∷ []) y) ∙ items_skipped s y bytes)
name_from false s bytes word = nests-word s word

nests-name : (name : Symbol) → IsName name → Nests (print_name name) 0
nests-name name h = name_from name.is_quoted name.text h.0 h.1

nests-integer : (z : ℤ) → FitsSigned w64 z → Nests (signed_decimal z) 0
nests-integer (pos n) fits = let small : n < 2 ^ 64 = omega (arith, fits.sfits) in
    nests-all is_ascii_digit digit-plain (decimal n) (decimal_digits n small)
nests-integer (negsuc n) fits =
    let small : suc n < 2 ^ 64 = omega (arith, fits.sfits) in
    nests-plain 45 0 (decimal (suc n)) (record { no_quote = refl; same = λ m. refl })
    (nests-all is_ascii_digit digit-plain (decimal (suc n)) (decimal_digits (suc n) small))

-- ---- terms

annotated : (x : List ℕ) (m : ℕ) (notes : Trees) → Nests x m → Nests (print_all notes) (heights notes)
    → Nests (x ++ bracketed 123 125 notes (print_all notes)) (max m (heights notes + 1))
annotated x m notes h k =
    nests-append x _ m (heights notes + 1) h (nests-bracketed 123 125 (heights notes) notes (print_all notes) curly k)

mutual
  nests-term : (t : Tree) → IsTerm t → Nests (print t) (height t)
  nests-term (integer z notes) h =
      nests-higher _ (max 0 (heights notes + 1)) (height (integer z notes)) (omega arith)
      (annotated (signed_decimal z) 0 notes (nests-integer z h.0) (all_of notes h.1))
  nests-term (branch (application name) kids notes) h =
      nests-higher _
      (max (max 0 (heights kids + 1)) (heights notes + 1)) (height (branch (application name) kids notes)) (omega arith)
      (annotated _ _ notes (nests-append (print_name name) _ 0 (heights kids + 1) (nests-name name h.0)
      (nests-bracketed 40 41 (heights kids) kids (print_all kids) round (all_of kids h.1))) (all_of notes h.2))
  nests-term (branch list kids notes) h =
      nests-higher _ (max (heights kids + 1) (heights notes + 1)) (height (branch list kids notes)) (omega arith)
      (subst (λ (x : List ℕ). Nests x (max (heights kids + 1) (heights notes + 1)))
      (append_assoc (91 ∷ print_all kids) (93 ∷ []) (bracketed 123 125 notes (print_all notes)))
      (annotated _ (heights kids + 1) notes
      (nests-enclosed 91 93 (heights kids) (print_all kids) square (all_of kids h.1)) (all_of notes h.2)))
  nests-term (branch tuple kids notes) h =
      nests-higher _ (max (heights kids + 1) (heights notes + 1)) (height (branch tuple kids notes)) (omega arith)
      (subst (λ (x : List ℕ). Nests x (max (heights kids + 1) (heights notes + 1)))
      (append_assoc (40 ∷ print_all kids) (41 ∷ []) (bracketed 123 125 notes (print_all notes)))
      (annotated _ (heights kids + 1) notes
      (nests-enclosed 40 41 (heights kids) (print_all kids) round (all_of kids h.1)) (all_of notes h.2)))

  all_of : (ts : Trees) → AreTerms ts → Nests (print_all ts) (heights ts)
  all_of none h = nests-empty 0
  all_of (more t ts) h =
      nests-append (print t) (print_more ts) (height t) (heights ts) (nests-term t h.0) (more_of ts h.1)

  more_of : (ts : Trees) → AreTerms ts → Nests (print_more ts) (heights ts)
  more_of none h = nests-empty 0
  more_of (more t ts) h =
      nests-plain 44 (max (height t) (heights ts)) (print t ++ print_more ts)
      (record { no_quote = refl; same = λ n. refl })
      (nests-append (print t) (print_more ts) (height t) (heights ts) (nests-term t h.0) (more_of ts h.1))

at_the_end : (t : Tree) → Nests (print t) (height t) → nesting (print t) ≤ height t
at_the_end t h = subst (λ (x : List ℕ). nesting x ≤ height t) (append-nil (print t)) (omega (arith, h.most 0 []))

pub printed-nests : PrintedTextNests
printed-nests t h = at_the_end t (nests-term t h)
