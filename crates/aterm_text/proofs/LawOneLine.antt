-- Printed text is one line.
use Rattle.std.proofs.Common.{◌≡◌, ℕ, ℤ, pos, negsuc, ◌+◌, ◌^◌, ◌<◌, ◌≤◌, ◌==◌, ◌||◌, ◌&&◌, Bool, true, false, IsTrue, cond, if◌then◌else◌, nat_lt, nat_le, List, [], ◌∷◌, ◌++◌, length, reverse, suc, refl, sym, ap, ◌∙◌, subst, arith, append_assoc, append-nil, inl, inr}
use Rattle.std.proofs.lemmas.Bool.{ltb-true, leb-true, ne_eqb}
use Rattle.std.proofs.lemmas.Bool.Decides.{eqb_tells}
use Rattle.std.proofs.lemmas.Fmt.{decimal_is_IsNumeral}
use Rattle.std.proofs.lemmas.List.Folds.{prefix_len-append}
use Rattle.std.proofs.lemmas.List.{length-append, length-reverse, reverse-append}
use Rattle.std.specs.Prelude.{FitsSigned}
use Rattle.std.specs.Int.{w64}
use Rattle.std.specs.Char.{is_ascii_digit, is_ascii_alphanumeric}
use Rattle.std.specs.Fmt.{decimal, signed_decimal}
use Rattle.std.specs.List.{prefix_len, suffix_len, list_all, flat_map, AllByRecursion}
use Rattle.term_core.specs.Word.{begins_word, continues_word, is_word}
use Rattle.term_core.specs.Tree.{Symbol, Tree, Trees, integer, branch, application, list, tuple, none, more}
use Rattle.term_core.specs.Terms.{IsTerm, AreTerms, IsName}
use Rattle.aterm_text.specs.Tokens.{is_blank}
use Rattle.aterm_text.specs.Printed.{escaped, octal_escape, print_name, bracketed, print, print_all, print_more}
use Rattle.aterm_text.specs.Laws.{IsPrinted, IsOneLine, PrintedTextIsOneLine}
use Rattle.aterm_text.proofs.LawTokens.{both, decimal_digits}

-- ---- bytes

-- a printed byte other than the space
record IsSolid (b : ℕ) : Type 0 where
  least : 33 ≤ b
  most : b ≤ 126

printed : (b : ℕ) → IsSolid b → IsPrinted b
printed b h = (omega (arith, h.least), h.most)

not_blank : (b : ℕ) → IsSolid b → is_blank b ≡ false
not_blank b h =
    rw (
      ne_eqb b 32 (λ e. omega (arith, h.least)),
      ne_eqb b 9 (λ e. omega (arith, h.least)),
      ne_eqb b 10 (λ e. omega (arith, h.least)),
      ne_eqb b 13 (λ e. omega (arith, h.least)),
    ) refl

either : {P : Type 0} (a b : Bool) → (a ≡ true → P) → (b ≡ true → P) → (a || b) ≡ true → P
either true b p q h = p refl
either false b p q h = q h

between : (low high b : ℕ) → 33 ≤ low → high ≤ 126 → (nat_le low b && nat_le b high) ≡ true → IsSolid b
between low high b l h t =
    let ends = both (nat_le low b) (nat_le b high) t in
    record { least = omega (arith, leb-true low b ends.0); most = omega (arith, leb-true b high ends.1) }

is_sign : (b c : ℕ) → IsSolid c → (b == c) ≡ true → IsSolid b
is_sign b c s h = elim (eqb_tells b c) [ inl is ↦ subst IsSolid (sym is.1) s | inr other ↦ absurd (cc (h, other.0)) ]

solid : (b : ℕ) → (nat_le 33 b && nat_le b 126) ≡ true → IsSolid b
solid b h = between 33 126 b (omega arith) (omega arith) h

digit_solid : (b : ℕ) → is_ascii_digit b ≡ true → IsSolid b
digit_solid b h = between 48 57 b (omega arith) (omega arith) h

begins_solid : (b : ℕ) → begins_word b ≡ true → IsSolid b
begins_solid b =
    either _ _ (either _ _ (between 65 90 b (omega arith) (omega arith)) (between 97 122 b (omega arith) (omega arith)))
    (is_sign b 95 (solid 95 refl))

continues_solid : (b : ℕ) → continues_word b ≡ true → IsSolid b
continues_solid b =
    or_sign 39 (or_sign 46
    (or_sign 36 (or_sign 42 (or_sign 43 (or_sign 45 (or_sign 95 alphanumeric refl) refl) refl) refl) refl) refl) refl
  where
    alphanumeric : is_ascii_alphanumeric b ≡ true → IsSolid b
    alphanumeric = either _ _
        (either _ _ (between 48 57 b (omega arith) (omega arith)) (between 65 90 b (omega arith) (omega arith)))
        (between 97 122 b (omega arith) (omega arith))

    or_sign : {q : Bool} (c : ℕ) → (q ≡ true → IsSolid b)
        → (nat_le 33 c && nat_le c 126) ≡ true → (q || (b == c)) ≡ true → IsSolid b
    or_sign {q} c h t = either q (b == c) h (is_sign b c (solid c t))

-- ---- lists of bytes

abbrev ArePrinted : List ℕ → Type 0
ArePrinted x = AllByRecursion IsPrinted x

printed-append : (x y : List ℕ) → ArePrinted x → ArePrinted y → ArePrinted (x ++ y)
printed-append [] y h k = k
printed-append (b ∷ x) y h k = (h.0, printed-append x y h.1 k)

all_solid : (p : ℕ → Bool) → ((b : ℕ) → p b ≡ true → IsSolid b) → (s : List ℕ)
    → list_all p s ≡ true → AllByRecursion IsSolid s
all_solid p h [] t = tt
all_solid p h (b ∷ s) t = let parts = both (p b) (list_all p s) t in (h b parts.0, all_solid p h s parts.1)

all_printed : (s : List ℕ) → AllByRecursion IsSolid s → ArePrinted s
all_printed [] h = tt
all_printed (b ∷ s) h = (printed b h.0, all_printed s h.1)

front-append : (x y : List ℕ) → 0 < length x → prefix_len is_blank x ≡ 0 → prefix_len is_blank (x ++ y) ≡ 0
front-append x y some h =
    prefix_len-append is_blank x y
    ∙ ap (λ (q : Bool). cond q (length x + prefix_len is_blank y) (prefix_len is_blank x))
    (ne_eqb (prefix_len is_blank x) (length x) (λ e. omega (arith, some, h, e))) ∙ h

end-append : (x y : List ℕ) → 0 < length y → suffix_len is_blank y ≡ 0 → suffix_len is_blank (x ++ y) ≡ 0
end-append x y some h =
    ap (prefix_len is_blank) (reverse-append x y)
    ∙ front-append (reverse y) (reverse x) (omega (arith, some, length-reverse y)) h

front-solid : (b : ℕ) (x : List ℕ) → IsSolid b → prefix_len is_blank (b ∷ x) ≡ 0
front-solid b x h = ap (λ (q : Bool). cond q (1 + prefix_len is_blank x) 0) (not_blank b h)

-- ---- lines

line-append : (x y : List ℕ) → IsOneLine x → IsOneLine y → IsOneLine (x ++ y)
line-append x y h k = record {
  bytes = printed-append x y h.bytes k.bytes;
  some = omega (arith, h.some, length-append x y);
  front = front-append x y h.some h.front;
  end = end-append x y k.some k.end;
}

sign-line : (b : ℕ) → IsSolid b → IsOneLine (b ∷ [])
sign-line b h =
    record { bytes = (printed b h, tt); some = omega arith; front = front-solid b [] h; end = front-solid b [] h }

solid-line : (s : List ℕ) → 0 < length s → AllByRecursion IsSolid s → IsOneLine s
solid-line [] some h = absurd (omega (arith, some))
solid-line (b ∷ []) some h = sign-line b h.0
solid-line (b ∷ (c ∷ s)) some h = line-append (b ∷ []) (c ∷ s) (sign-line b h.0) (solid-line (c ∷ s) (omega arith) h.1)

enclosed : (o c : ℕ) (inner : List ℕ) → IsSolid o → IsSolid c → ArePrinted inner → IsOneLine (o ∷ (inner ++ c ∷ []))
enclosed o c inner h k all = record {
  bytes = (printed o h, printed-append inner (c ∷ []) all (printed c k, tt));
  some = omega arith;
  front = front-solid o (inner ++ c ∷ []) h;
  end = end-append (o ∷ inner) (c ∷ []) (omega arith) (front-solid c [] k);
}

bracketed-line : (o c : ℕ) (x : List ℕ) (ts : Trees) (inner : List ℕ) → IsSolid o → IsSolid c → IsOneLine x
    → ArePrinted inner → IsOneLine (x ++ bracketed o c ts inner)
bracketed-line o c x none inner h k l all = subst IsOneLine (sym (append-nil x)) l
bracketed-line o c x (more t ts) inner h k l all = line-append x (o ∷ (inner ++ c ∷ [])) l (enclosed o c inner h k all)

-- ---- names and integers

word-line : (s : List ℕ) → IsTrue (is_word s) → IsOneLine s
word-line [] h = absurd (cc)
word-line (b ∷ s) h =
    let parts : (begins_word b ≡ true) × (list_all continues_word s ≡ true) =
    both (begins_word b) (list_all continues_word s) h in
    solid-line (b ∷ s) (omega arith) (begins_solid b parts.0, all_solid continues_word continues_solid s parts.1)

decimal-line : (n : ℕ) → n < 2 ^ 64 → IsOneLine (decimal n)
decimal-line n small =
    solid-line (decimal n) (omega (arith, (decimal_is_IsNumeral n small).0.0))
    (all_solid is_ascii_digit digit_solid (decimal n) (decimal_digits n small))

pub integer-line : (z : ℤ) → FitsSigned w64 z → IsOneLine (signed_decimal z)
integer-line (pos n) fits = decimal-line n (omega (arith, fits.sfits))
integer-line (negsuc n) fits = line-append (45 ∷ []) (decimal (suc n)) (sign-line 45 (solid 45 refl))
    (decimal-line (suc n) (omega (arith, fits.sfits)))

octal_printed : (b : ℕ) → b < 256 → ArePrinted (octal_escape b)
octal_printed b h = (
  (omega arith, omega arith),
  ((omega arith, omega arith), ((omega arith, omega arith), ((omega arith, omega arith), tt))),
)

plain_printed : (q : Bool) (b : ℕ) → b < 256 → (q ≡ true → IsPrinted b)
    → ArePrinted (if q then b ∷ [] else octal_escape b)
plain_printed true b h p = (p refl, tt)
plain_printed false b h p = octal_printed b h

-- a byte after a backslash
after_backslash : (b : ℕ) → IsSolid b → ArePrinted (92 ∷ (b ∷ []))
after_backslash b h = (printed 92 (solid 92 refl), (printed b h, tt))

one_of : (q : Bool) (x y : List ℕ) → ArePrinted x → ArePrinted y → ArePrinted (if q then x else y)
one_of true x y p r = p
one_of false x y p r = r

escaped_printed : (b : ℕ) → b < 256 → ArePrinted (escaped b)
escaped_printed b h =
    one_of (b == 34) _ _ (after_backslash 34 (solid 34 refl)) (one_of (b == 92) _ _ (after_backslash 92 (solid 92 refl))
    (one_of (b == 10) _ _ (after_backslash 110 (solid 110 refl))
    (one_of (b == 9) _ _ (after_backslash 116 (solid 116 refl)) (one_of (b == 13) _ _
    (after_backslash 114 (solid 114 refl)) (plain_printed (nat_lt 31 b && nat_lt b 127) b h range)))))
  where
    range : (nat_lt 31 b && nat_lt b 127) ≡ true → IsPrinted b
    range t = let ends = both (nat_lt 31 b) (nat_lt b 127) t in
        (omega (arith, ltb-true 31 b ends.0), omega (arith, ltb-true b 127 ends.1))

items_printed : (s : List ℕ) → AllByRecursion (λ b. b < 256) s → ArePrinted (flat_map escaped s)
items_printed [] h = tt
items_printed (b ∷ s) h = printed-append (escaped b) (flat_map escaped s) (escaped_printed b h.0) (items_printed s h.1)

name_from : (q : Bool) (s : List ℕ) → AllByRecursion (λ b. b < 256) s → IsTrue (q || is_word s)
    → IsOneLine (if q then 34 ∷ (flat_map escaped s ++ 34 ∷ []) else s)
name_from true s bytes word =
    enclosed 34 34 (flat_map escaped s) (solid 34 refl) (solid 34 refl) (items_printed s bytes)
name_from false s bytes word = word-line s word

pub name-line : (name : Symbol) → IsName name → IsOneLine (print_name name)
name-line name h = name_from name.is_quoted name.text h.0 h.1

-- ---- terms

annotated : (x : List ℕ) (notes : Trees) → IsOneLine x → ArePrinted (print_all notes)
    → IsOneLine (x ++ bracketed 123 125 notes (print_all notes))
annotated x notes l all = bracketed-line 123 125 x notes (print_all notes) (solid 123 refl) (solid 125 refl) l all

mutual
  term-line : (t : Tree) → IsTerm t → IsOneLine (print t)
  term-line (integer z notes) h = annotated (signed_decimal z) notes (integer-line z h.0) (all_of notes h.1)
  term-line (branch (application name) kids notes) h =
      annotated (print_name name ++ bracketed 40 41 kids (print_all kids)) notes
      (bracketed-line 40 41 (print_name name) kids (print_all kids) (solid 40 refl) (solid 41 refl) (name-line name h.0)
      (all_of kids h.1)) (all_of notes h.2)
  term-line (branch list kids notes) h =
      subst IsOneLine (append_assoc (91 ∷ print_all kids) (93 ∷ []) (bracketed 123 125 notes (print_all notes)))
      (annotated (91 ∷ (print_all kids ++ 93 ∷ [])) notes
      (enclosed 91 93 (print_all kids) (solid 91 refl) (solid 93 refl) (all_of kids h.1)) (all_of notes h.2))
  term-line (branch tuple kids notes) h =
      subst IsOneLine (append_assoc (40 ∷ print_all kids) (41 ∷ []) (bracketed 123 125 notes (print_all notes)))
      (annotated (40 ∷ (print_all kids ++ 41 ∷ [])) notes
      (enclosed 40 41 (print_all kids) (solid 40 refl) (solid 41 refl) (all_of kids h.1)) (all_of notes h.2))

  all_of : (ts : Trees) → AreTerms ts → ArePrinted (print_all ts)
  all_of none h = tt
  all_of (more t ts) h = let first : IsOneLine (print t) = term-line t h.0 in
      printed-append (print t) (print_more ts) first.bytes (more_of ts h.1)

  more_of : (ts : Trees) → AreTerms ts → ArePrinted (print_more ts)
  more_of none h = tt
  more_of (more t ts) h = let first : IsOneLine (print t) = term-line t h.0 in
      (printed 44 (solid 44 refl), printed-append (print t) (print_more ts) first.bytes (more_of ts h.1))

pub printed-line : PrintedTextIsOneLine
printed-line = term-line
