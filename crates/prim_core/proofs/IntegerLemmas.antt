-- Integers as texts, for the function that reads them.
use Rattle.std.proofs.Common.{◌≡◌, ℕ, ◌==◌, cond, Bool, true, false, List, [], ◌∷◌, drop, get_or, Some, None, refl, sym, ap, ◌∙◌, subst, arith}
use Rattle.std.proofs.lemmas.Bool.Decides.{nat_tests}
use Rattle.std.proofs.lemmas.Int.{ints, to_z-of_z}
use Rattle.std.proofs.lemmas.Str.{IsUtf8-from_ascii}
use Rattle.std.proofs.lemmas.Str.Ascii.{IsAscii-cons}
use Rattle.std.proofs.lemmas.Str.Parse.{IsNumeralModel, numerals_by_value, tells_all_ascii_digits}
use Rattle.std.proofs.lemmas.Fmt.{IsAscii-from_digits}
use Rattle.std.specs.Prelude.{ℤ, pos, negsuc, neg_ℤ, FitsSigned, option_and_then}
use Rattle.std.specs.Int.{w64, cast_signed, cast_unsigned}
use Rattle.std.specs.declared.option.Option.{Option}
use Rattle.std.specs.Option.{option_map}
use Rattle.std.specs.Str.{IsAscii, IsUtf8, all_ascii_digits}
use Rattle.std.specs.Str.Parse.{IsNumeral, digits_value, without_leading_sign, signed_digits_value}
use Rattle.term_core.specs.Tree.{Tree, integer_term}
use Rattle.prim_core.specs.Values.{is_i64, integer_in_range}
use Rattle.prim_core.specs.Strings.{number_of, integer_of}

-- ---- the range

is_i64-fits : (z : ℤ) → FitsSigned w64 z → is_i64 z ≡ true
is_i64-fits (pos n) h = grind (arith, ints, nat_tests, h.sfits)
is_i64-fits (negsuc n) h = grind (arith, ints, nat_tests, h.sfits)

is_i64-outside : (z : ℤ) → (FitsSigned w64 z → ⊥) → is_i64 z ≡ false
is_i64-outside (pos n) h = grind (arith, ints, nat_tests)
is_i64-outside (negsuc n) h = grind (arith, ints, nat_tests)

-- ---- digits

digits : IsNumeralModel (λ ds. all_ascii_digits ds ≡ true) (digits_value 10)
digits = numerals_by_value _ tells_all_ascii_digits

number_of-numeral : (ds : List ℕ) → IsNumeral 10 ds → number_of ds ≡ Some (digits_value 10 ds)
number_of-numeral [] h = absurd (omega (arith, h.0))
number_of-numeral (b ∷ bs) h =
    ap (λ t. cond t (Some (digits_value 10 (b ∷ bs))) None) (digits.from (b ∷ bs) h.1)

tested : (t : Bool) (m n : ℕ) → cond t (Some m) None ≡ Some n → (t ≡ true) × (m ≡ n)
tested true m n e = (refl, cc)
tested false m n e = absurd (cc)

numeral-number_of : (ds : List ℕ) (n : ℕ) → number_of ds ≡ Some n → IsNumeral 10 ds × (digits_value 10 ds ≡ n)
numeral-number_of [] n e = absurd (cc)
numeral-number_of (b ∷ bs) n e =
    let known = tested (all_ascii_digits (b ∷ bs)) (digits_value 10 (b ∷ bs)) n e in
    ((omega arith, digits.to (b ∷ bs) known.0), known.1)

-- ---- a sign and digits

-- the digits, where m and p say whether a minus or a plus comes first
abbrev rest : Bool → Bool → ℕ → List ℕ → List ℕ
rest m p b bs = cond m bs (drop (cond p 1 0) (b ∷ bs))

abbrev read : Bool → ℕ → List ℕ → Option ℤ
read m b bs = cond m (option_map (λ n. neg_ℤ (pos n)) (number_of bs)) (option_map pos (number_of (b ∷ bs)))

abbrev value : Bool → List ℕ → ℤ
value m ds = cond m (neg_ℤ (pos (digits_value 10 ds))) (pos (digits_value 10 ds))

read-numeral : (m p : Bool) (b : ℕ) (bs : List ℕ) → p ≡ false → IsNumeral 10 (rest m p b bs)
    → read m b bs ≡ Some (value m (rest m p b bs))
read-numeral true p b bs e h = ap (option_map (λ n. neg_ℤ (pos n))) (number_of-numeral bs h)
read-numeral false true b bs e h = absurd (cc)
read-numeral false false b bs e h = ap (option_map pos) (number_of-numeral (b ∷ bs) h)

mapped : (f : ℕ → ℤ) (o : Option ℕ) (z : ℤ) → option_map f o ≡ Some z → (n : ℕ) × (o ≡ Some n) × (f n ≡ z)
mapped f None z e = absurd (cc)
mapped f (Some n) z e = (n, refl, cc)

numeral-read : (m p : Bool) (b : ℕ) (bs : List ℕ) (z : ℤ) → p ≡ false → read m b bs ≡ Some z
    → IsNumeral 10 (rest m p b bs) × (value m (rest m p b bs) ≡ z)
numeral-read true p b bs z e h =
    let found = mapped (λ n. neg_ℤ (pos n)) (number_of bs) z h in
    let known = numeral-number_of bs found.0 found.1 in
    (known.0, ap (λ n. neg_ℤ (pos n)) known.1 ∙ found.2)
numeral-read false true b bs z e h = absurd (cc)
numeral-read false false b bs z e h =
    let found = mapped pos (number_of (b ∷ bs)) z h in
    let known = numeral-number_of (b ∷ bs) found.0 found.1 in
    (known.0, ap pos known.1 ∙ found.2)

not_plus : (b : ℕ) → (b ≡ 43 → ⊥) → (b == 43) ≡ false
not_plus b h = grind (arith, nat_tests)

integer_of-numeral : (bs : List ℕ) → (get_or bs 0 0 ≡ 43 → ⊥) → IsNumeral 10 (without_leading_sign bs)
    → integer_of bs ≡ Some (signed_digits_value 10 bs)
integer_of-numeral [] h n = absurd (omega (arith, n.0))
integer_of-numeral (b ∷ bs) h n = read-numeral (b == 45) (b == 43) b bs (not_plus b h) n

numeral-integer_of : (bs : List ℕ) (z : ℤ) → (get_or bs 0 0 ≡ 43 → ⊥) → integer_of bs ≡ Some z
    → IsNumeral 10 (without_leading_sign bs) × (signed_digits_value 10 bs ≡ z)
numeral-integer_of [] z h e = absurd (cc)
numeral-integer_of (b ∷ bs) z h e = numeral-read (b == 45) (b == 43) b bs z (not_plus b h) e

-- ---- a text of an integer is UTF-8

first_ascii : (b : ℕ) (bs : List ℕ) (minus plus : Bool)
    → (b == 45) ≡ minus → (b == 43) ≡ plus → IsNumeral 10 (rest minus plus b bs) → IsAscii (b ∷ bs)
first_ascii b bs true plus m p h = IsAscii-cons b bs (grind (arith, nat_tests)) (IsAscii-from_digits bs h.1)
first_ascii b bs false true m p h = IsAscii-cons b bs (grind (arith, nat_tests)) (IsAscii-from_digits bs h.1)
first_ascii b bs false false m p h = IsAscii-from_digits (b ∷ bs) h.1

numeral_utf8 : (bs : List ℕ) → IsNumeral 10 (without_leading_sign bs) → IsUtf8 bs
numeral_utf8 [] h = IsUtf8-from_ascii [] (IsAscii-from_digits [] tt)
numeral_utf8 (b ∷ bs) h = IsUtf8-from_ascii (b ∷ bs) (first_ascii b bs (b == 45) (b == 43) refl refl h)

-- ---- the result of parsing a text without a plus

abbrev answer : List ℕ → Option Tree
answer bs = option_and_then integer_in_range (integer_of bs)

answer-outside : (z : ℤ) → (FitsSigned w64 z → ⊥) → None ≡ integer_in_range z
answer-outside z h = sym (ap (λ t. cond t (Some (integer_term z)) None) (is_i64-outside z h))

answer-fits : (z : ℤ) → FitsSigned w64 z → Some (integer_term z) ≡ integer_in_range z
answer-fits z h = sym (ap (λ t. cond t (Some (integer_term z)) None) (is_i64-fits z h))

-- The parsed text has the given bytes.
pub answer-some : (text bs : List ℕ) (z : ℤ) → text ≡ bs → (get_or bs 0 0 ≡ 43 → ⊥)
    → (IsNumeral 10 (without_leading_sign text) × FitsSigned w64 (signed_digits_value 10 text))
    × (z ≡ signed_digits_value 10 text) → Some (integer_term (cast_signed w64 (cast_unsigned w64 z))) ≡ answer bs
answer-some text bs z e no_plus h =
    let P : List ℕ → Type 0 = λ t. (IsNumeral 10 (without_leading_sign t) × FitsSigned w64 (signed_digits_value 10 t))
    × (z ≡ signed_digits_value 10 t) in
    let here = subst P e h in
    let fits : FitsSigned w64 z = subst (FitsSigned w64) (sym here.1) here.0.1 in
    ap (λ v. Some (integer_term v)) (to_z-of_z w64 z fits) ∙ answer-fits z fits ∙ ap integer_in_range here.1
    ∙ sym (ap (option_and_then integer_in_range) (integer_of-numeral bs no_plus here.0.0))

none-answer : (bs : List ℕ) (o : Option ℤ) → integer_of bs ≡ o → (get_or bs 0 0 ≡ 43 → ⊥)
    → (IsNumeral 10 (without_leading_sign bs) × FitsSigned w64 (signed_digits_value 10 bs) → ⊥)
    → None ≡ option_and_then integer_in_range o
none-answer bs None e no_plus outside = refl
none-answer bs (Some z) e no_plus outside =
    let known = numeral-integer_of bs z no_plus e in
    answer-outside z (λ fits. outside (known.0, subst (FitsSigned w64) (sym known.1) fits))

pub answer-none : (text bs : List ℕ) → text ≡ bs → (get_or bs 0 0 ≡ 43 → ⊥)
    → (IsNumeral 10 (without_leading_sign text) × FitsSigned w64 (signed_digits_value 10 text) → ⊥) → None ≡ answer bs
answer-none text bs e no_plus outside =
    let P : List ℕ → Type 0 =
    λ t. IsNumeral 10 (without_leading_sign t) × FitsSigned w64 (signed_digits_value 10 t) → ⊥ in
    none-answer bs (integer_of bs) refl no_plus (subst P e outside)

pub answer-no_text : (bs : List ℕ) → (get_or bs 0 0 ≡ 43 → ⊥) → (IsUtf8 bs → ⊥) → None ≡ answer bs
answer-no_text bs no_plus not_text = none-answer bs (integer_of bs) refl no_plus (λ h. not_text (numeral_utf8 bs h.0))
