-- Each printed token is read back, if what follows can't belong to it.
use Rattle.std.proofs.Common.{◌≡◌, ◌≢◌, ℕ, ℤ, pos, negsuc, neg_ℤ, ◌+◌, ◌*◌, ◌-◌, ◌/◌, ◌%◌, ◌^◌, ◌<◌, ◌==◌, ◌||◌, ◌&&◌, Bool, true, false, IsTrue, cond, if◌then◌else◌, nat_lt, List, [], ◌∷◌, ◌++◌, length, take, drop, Some, None, refl, sym, ap, ◌∙◌, subst, arith, append_assoc, suc, inl, inr, MatchBool}
use Rattle.std.proofs.Math.Seq.{take-append_seam, drop-append_seam}
use Rattle.std.proofs.lemmas.Bool.{lt-ltb, true≢false}
use Rattle.std.proofs.lemmas.Bool.Decides.{eqb_tells}
use Rattle.std.proofs.lemmas.Str.Parse.{numerals_by_value, tells_all_ascii_digits}
use Rattle.std.proofs.lemmas.Fmt.{digits_decimal, decimal_is_IsNumeral}
use Rattle.std.specs.Prelude.{FitsSigned}
use Rattle.std.specs.Int.{w64}
use Rattle.std.specs.Cmp.Derive.{both_true}
use Rattle.std.specs.Char.{is_ascii_digit}
use Rattle.std.specs.Str.{all_ascii_digits}
use Rattle.std.specs.Str.Parse.{IsNumeral, digits_value, without_leading_sign, starts_with_minus}
use Rattle.std.specs.Fmt.{decimal, signed_decimal}
use Rattle.std.specs.List.{prefix_len, list_all, flat_map, AllByRecursion}
use Rattle.term_core.specs.Word.{begins_word, continues_word, is_word, first_word}
use Rattle.term_core.specs.Tree.{Symbol}
use Rattle.term_core.specs.Terms.{IsName}
use Rattle.aterm_text.specs.Tokens.{is_blank, without_blanks, integer_len, IsInteger, NextInteger, item_at, is_octal_digit, ReadsItems, NextWord, NextQuoted, NextName}
use Rattle.aterm_text.specs.Printed.{escaped, octal_escape, print_name}

-- ---- tests of a byte

pub both : (a b : Bool) → (a && b) ≡ true → (a ≡ true) × (b ≡ true)
both true b h = (refl, h)
both false b h = absurd (cc)

unequal : (a b : ℕ) → a ≢ b → (a == b) ≡ false
unequal a b ne = elim (eqb_tells a b) [ inl h ↦ absurd (ne h.1) | inr h ↦ h.0 ]

-- a byte that passes a test differs from one that fails it
pub other_byte : (p : ℕ → Bool) (k b : ℕ) → p k ≡ false → p b ≡ true → (b == k) ≡ false
other_byte p k b fails passes = unequal b k (λ e. true≢false (sym passes ∙ ap p e ∙ fails))

no_blank : (p : ℕ → Bool) (b : ℕ)
    → p 32 ≡ false → p 9 ≡ false → p 10 ≡ false → p 13 ≡ false → p b ≡ true → is_blank b ≡ false
no_blank p b n0 n1 n2 n3 passes = rw
    (other_byte p 32 b n0 passes, other_byte p 9 b n1 passes, other_byte p 10 b n2 passes, other_byte p 13 b n3 passes)
    refl

-- ---- prefixes of lists

drop_none : (q : Bool) (n : ℕ) (x : List ℕ) → q ≡ false → drop (cond q n 0) x ≡ x
drop_none true n x h = absurd (cc)
drop_none false n x h = refl

without_no_blanks : (b : ℕ) (x : List ℕ) → is_blank b ≡ false → without_blanks (b ∷ x) ≡ b ∷ x
without_no_blanks b x h = drop_none (is_blank b) (1 + prefix_len is_blank x) (b ∷ x) h

count_more : (q : Bool) (m n : ℕ) → q ≡ true → m ≡ n → cond q (1 + m) 0 ≡ suc n
count_more true m n h e = omega arith
count_more false m n h e = absurd (cc)

-- all elements pass, and the next one doesn't
prefix_whole : (p : ℕ → Bool) (s y : List ℕ)
    → list_all p s ≡ true → prefix_len p y ≡ 0 → prefix_len p (s ++ y) ≡ length s
prefix_whole p [] y h stop = stop
prefix_whole p (b ∷ s) y h stop = count_more (p b) (prefix_len p (s ++ y)) (length s) (both (p b) (list_all p s) h).0
    (prefix_whole p s y (both (p b) (list_all p s) h).1 stop)

-- ---- words

word_from : (b : ℕ) (s x y : List ℕ) → without_blanks x ≡ b ∷ (s ++ y) → begins_word b
    ≡ true → prefix_len continues_word (s ++ y) ≡ length s → NextWord (b ∷ s) x y
word_from b s x y blanks begins len =
    ap first_word blanks ∙ ap (λ c. cond c
    (Some (b ∷ take (prefix_len continues_word (s ++ y)) (s ++ y), drop (prefix_len continues_word (s ++ y)) (s ++ y)))
    None) begins
    ∙ ap (λ n. Some (b ∷ take n (s ++ y), drop n (s ++ y))) len
    ∙ (λ i. Some (b ∷ take-append_seam s y i, drop-append_seam s y i))

pub word-read : (s y : List ℕ) → IsTrue (is_word s) → prefix_len continues_word y ≡ 0 → NextWord s (s ++ y) y
word-read [] y h stop = absurd (cc)
word-read (b ∷ s) y h stop =
    let parts : (begins_word b ≡ true) × (list_all continues_word s ≡ true) =
    both (begins_word b) (list_all continues_word s) h in
    word_from b s (b ∷ (s ++ y)) y
    (without_no_blanks b (s ++ y) (no_blank begins_word b refl refl refl refl parts.0)) parts.0
    (prefix_whole continues_word s y parts.1 stop)

-- ---- integers

integer_from : (z : ℤ) (s x y : List ℕ) → without_blanks x ≡ s ++ y → integer_len (s ++ y) ≡ length s → IsInteger s z
    → NextInteger z x y
integer_from z s x y blanks len is = rw (blanks, len, take-append_seam s y, drop-append_seam s y) (is, refl)

-- a text of digits has no sign
no_sign : (b : ℕ) (s : List ℕ)
    → is_ascii_digit b ≡ true → (starts_with_minus (b ∷ s) ≡ false) × (without_leading_sign (b ∷ s) ≡ b ∷ s)
no_sign b s h = (
  other_byte is_ascii_digit 45 b refl h,
  rw (other_byte is_ascii_digit 45 b refl h, other_byte is_ascii_digit 43 b refl h) refl,
)

all_digits : (s : List ℕ) → all_ascii_digits s ≡ list_all is_ascii_digit s
all_digits [] = refl
all_digits (b ∷ s) = ap (λ q. is_ascii_digit b && q) (all_digits s)

plain_integer : (s : List ℕ) (n : ℕ) → starts_with_minus s ≡ false → without_leading_sign s ≡ s → IsNumeral 10 s
    → digits_value 10 s ≡ n → FitsSigned w64 (pos n) → IsInteger s (pos n)
plain_integer s n minus sign numeral value fits = (rw sign numeral, rw (sign, minus) (ap pos value), fits)

digits_read : (s : List ℕ) (n : ℕ) (y : List ℕ) → list_all is_ascii_digit s ≡ true → IsNumeral 10 s
    → digits_value 10 s ≡ n → FitsSigned w64 (pos n) → prefix_len is_ascii_digit y ≡ 0 → NextInteger (pos n) (s ++ y) y
digits_read [] n y digits numeral value fits stop = absurd (omega (arith, numeral.0))
digits_read (b ∷ s) n y digits numeral value fits stop =
    let first : is_ascii_digit b ≡ true = (both (is_ascii_digit b) (list_all is_ascii_digit s) digits).0 in
    let signs : (starts_with_minus (b ∷ s) ≡ false) × (without_leading_sign (b ∷ s) ≡ b ∷ s) = no_sign b s first in
    integer_from (pos n) (b ∷ s) (b ∷ (s ++ y)) y
    (without_no_blanks b (s ++ y) (no_blank is_ascii_digit b refl refl refl refl first))
    (rw (other_byte is_ascii_digit 45 b refl first) (prefix_whole is_ascii_digit (b ∷ s) y digits stop))
    (plain_integer (b ∷ s) n signs.0 signs.1 numeral value fits)

minus_read : (s : List ℕ) (n : ℕ) (y : List ℕ) → list_all is_ascii_digit s ≡ true → IsNumeral 10 s → digits_value 10 s
    ≡ suc n → FitsSigned w64 (negsuc n) → prefix_len is_ascii_digit y ≡ 0 → NextInteger (negsuc n) (45 ∷ (s ++ y)) y
minus_read s n y digits numeral value fits stop =
    integer_from (negsuc n) (45 ∷ s) (45 ∷ (s ++ y)) y refl (omega (arith, prefix_whole is_ascii_digit s y digits stop))
    (numeral, ap (λ m. neg_ℤ (pos m)) value, fits)

pub decimal_digits : (n : ℕ) → n < 2 ^ 64 → list_all is_ascii_digit (decimal n) ≡ true
decimal_digits n h = sym (all_digits (decimal n)) ∙ digits_decimal (numerals_by_value _ tells_all_ascii_digits) n h

pub integer-read : (z : ℤ) (y : List ℕ) → FitsSigned w64 z
    → prefix_len is_ascii_digit y ≡ 0 → NextInteger z (signed_decimal z ++ y) y
integer-read (pos n) y fits stop =
    let small : n < 2 ^ 64 = omega (arith, fits.sfits) in
    digits_read (decimal n) n y (decimal_digits n small) (decimal_is_IsNumeral n small).0
    (decimal_is_IsNumeral n small).1 fits stop
integer-read (negsuc n) y fits stop =
    let small : suc n < 2 ^ 64 = omega (arith, fits.sfits) in
    minus_read (decimal (suc n)) n y (decimal_digits (suc n) small) (decimal_is_IsNumeral (suc n) small).0
    (decimal_is_IsNumeral (suc n) small).1 fits stop

-- ---- quoted names

octal_digit : (i : ℕ) → i < 8 → is_octal_digit (48 + i) ≡ true
octal_digit i h = both_true (lt-ltb 47 (48 + i) (omega arith)) (lt-ltb (48 + i) 56 (omega arith))

octal_read : (i j k : ℕ) (y : List ℕ)
    → i < 4 → j < 8 → k < 8 → item_at (92 ∷ ((48 + i) ∷ ((48 + j) ∷ ((48 + k) ∷ y)))) ≡ Some (64 * i + 8 * j + k, y)
octal_read i j k y hi hj hk =
    let small : (is_octal_digit (48 + i) && is_octal_digit (48 + j) && is_octal_digit (48 + k) && nat_lt
    (64 * (48 + i - 48) + 8 * (48 + j - 48) + (48 + k - 48)) 256) ≡ true =
    both_true (both_true (both_true (octal_digit i (omega arith)) (octal_digit j hj)) (octal_digit k hk))
    (lt-ltb _ _ (omega arith)) in
    rw (
      unequal (48 + i) 34 (omega arith),
      unequal (48 + i) 92 (omega arith),
      unequal (48 + i) 110 (omega arith),
      unequal (48 + i) 116 (omega arith),
      unequal (48 + i) 114 (omega arith),
      small,
    )
    (ap (λ n. Some (n, y)) (omega arith))

-- a byte that has no escape of its own
plain_read : (q : Bool) (b : ℕ) (y : List ℕ) → b < 256 → (b == 34) ≡ false → (b == 92) ≡ false
    → item_at ((if q then b ∷ [] else octal_escape b) ++ y) ≡ Some (b, y)
plain_read true b y h quote backslash = rw (quote, backslash) refl
plain_read false b y h quote backslash = octal_read (b / 64) (b / 8 % 8) (b % 8) y (omega arith) (omega arith)
    (omega arith) ∙ ap (λ n. Some (n, y)) (omega arith)

item_read : (b : ℕ) (y : List ℕ) → b < 256 → item_at (escaped b ++ y) ≡ Some (b, y)
item_read b y h =
    let P : ℕ → Type 0 = λ n. item_at (escaped n ++ y) ≡ Some (n, y) in
    elim (eqb_tells b 34) [
      | inl is ↦ subst P (sym is.1) refl
      | inr quote ↦
          elim (eqb_tells b 92) [
            | inl is ↦ subst P (sym is.1) refl
            | inr backslash ↦
                elim (eqb_tells b 10) [
                  | inl is ↦ subst P (sym is.1) refl
                  | inr line ↦
                      elim (eqb_tells b 9) [
                        | inl is ↦ subst P (sym is.1) refl
                        | inr tab ↦
                            elim (eqb_tells b 13) [
                              | inl is ↦ subst P (sym is.1) refl
                              | inr return ↦
                                  rw (quote.0, backslash.0, line.0, tab.0, return.0)
                                  (plain_read (nat_lt 31 b && nat_lt b 127) b y h quote.0 backslash.0)
                            ]
                      ]
                ]
          ]
    ]

pub items-read : (s y : List ℕ) → AllByRecursion (λ b. b < 256) s → ReadsItems s (flat_map escaped s ++ 34 ∷ y) y
items-read [] y h = refl
items-read (b ∷ s) y h = (
  flat_map escaped s ++ 34 ∷ y,
  rw (append_assoc (escaped b) (flat_map escaped s) (34 ∷ y)) (item_read b _ h.0),
  items-read s y h.1,
)

-- ---- names

name_from : (q : Bool) (s y : List ℕ) → AllByRecursion (λ b. b < 256) s → IsTrue (q || is_word s)
    → prefix_len continues_word y ≡ 0 →
    MatchBool q (NextQuoted s ((if q then 34 ∷ (flat_map escaped s ++ 34 ∷ []) else s) ++ y) y)
    (NextWord s ((if q then 34 ∷ (flat_map escaped s ++ 34 ∷ []) else s) ++ y) y)
name_from true s y bytes word stop = (
  (flat_map escaped s ++ 34 ∷ []) ++ y,
  refl,
  rw (append_assoc (flat_map escaped s) (34 ∷ []) y) (items-read s y bytes),
)
name_from false s y bytes word stop = word-read s y word stop

pub name-read : (name : Symbol) (y : List ℕ) → IsName name
    → prefix_len continues_word y ≡ 0 → NextName name (print_name name ++ y) y
name-read name y h stop = name_from name.is_quoted name.text y h.0 h.1 stop
