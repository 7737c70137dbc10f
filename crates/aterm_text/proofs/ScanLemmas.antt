-- Laws of the tokens, for the functions that read them.
use Rattle.std.proofs.Common.{get_or, ◌*◌, ◌^◌, ◌≡◌, ℕ, suc, ◌+◌, ◌-◌, not, ◌&&◌, ◌<◌, ◌≤◌, ◌==◌, cond, Bool, true, false, List, [], ◌∷◌, ◌++◌, length, take, drop, Some, None, refl, sym, ap, ◌∙◌, subst, arith, append_assoc, append-nil}
use Rattle.std.specs.declared.option.Option.{Option}
use Rattle.std.proofs.lemmas.Grind.{common_steps}
use Rattle.std.proofs.lemmas.Bool.Decides.{nat_tests}
use Rattle.std.proofs.lemmas.Str.{IsUtf8-from_ascii, digit_value_digit}
use Rattle.std.proofs.lemmas.Str.Ascii.{IsAscii-cons}
use Rattle.std.proofs.lemmas.Fmt.{IsAscii-from_digits}
use Rattle.std.specs.Str.{IsAscii, IsUtf8}
use Rattle.std.specs.Int.{IsInRange}
use Rattle.std.specs.Char.{is_ascii_digit}
use Rattle.std.specs.Str.Parse.{AllDigits, digits_value, IsNumeral, without_leading_sign}
use Rattle.std.proofs.lemmas.Str.Parse.{digits_value_short, numerals_by_value, tells_digits}
use Rattle.std.proofs.lemmas.Int.Digits.{digits_value_more, digits_more}
use Rattle.std.proofs.lemmas.List.{length-take-le}
use Rattle.std.specs.List.{prefix_len}
use Rattle.aterm_text.specs.Tokens.{item_at, escape_at, ReadsItems}
use Rattle.aterm_text.specs.inside.Runs.{is_plain}

-- ---- white space

pub drop-rest : {X : Type 0} (n : ℕ) (xs : List X) → n ≤ length xs → take (length xs - n) (drop n xs) ≡ drop n xs
drop-rest n xs h = grind (arith, common_steps)

-- after the longest prefix that passes, the next element doesn't pass
rest_more : (p : ℕ → Bool) (b : ℕ) (bs : List ℕ) (passes : Bool)
    → p b ≡ passes → prefix_len p (drop (prefix_len p bs) bs) ≡ 0
    → prefix_len p (drop (cond passes (1 + prefix_len p bs) 0) (b ∷ bs)) ≡ 0
rest_more p b bs true e h =
    let one : 1 + prefix_len p bs ≡ suc (prefix_len p bs) = omega arith in
    ap (λ n. prefix_len p (drop n (b ∷ bs))) one ∙ h
rest_more p b bs false e h = ap (λ c. cond c (1 + prefix_len p bs) 0) e

pub prefix_len-rest : (p : ℕ → Bool) (xs : List ℕ) → prefix_len p (drop (prefix_len p xs) xs) ≡ 0
prefix_len-rest p [] = refl
prefix_len-rest p (b ∷ bs) = rest_more p b bs (p b) refl (prefix_len-rest p bs)

-- ---- integers

first_ascii : (b : ℕ) (bs : List ℕ) (minus plus : Bool) → (b == 45) ≡ minus → (b == 43) ≡ plus → IsNumeral 10
    (cond minus bs (drop (cond plus 1 0) (b ∷ bs))) → IsAscii (b ∷ bs)
first_ascii b bs true plus m p h = IsAscii-cons b bs (grind (arith, nat_tests)) (IsAscii-from_digits bs h.1)
first_ascii b bs false true m p h = IsAscii-cons b bs (grind (arith, nat_tests)) (IsAscii-from_digits bs h.1)
first_ascii b bs false false m p h = IsAscii-from_digits (b ∷ bs) h.1

integer_ascii : (text : List ℕ) → IsNumeral 10 (without_leading_sign text) → IsAscii text
integer_ascii [] h = IsAscii-from_digits [] tt
integer_ascii (b ∷ bs) h = first_ascii b bs (b == 45) (b == 43) refl refl h

pub integer_utf8 : (text : List ℕ) → IsNumeral 10 (without_leading_sign text) → IsUtf8 text
integer_utf8 text h = IsUtf8-from_ascii text (integer_ascii text h)

-- ---- quoted bytes read so far: the whole text spells what was read followed by what the rest
-- spells

pub record IsReadSoFar (text bytes rest : List ℕ) : Type 0 where
  pub forth : (all y : List ℕ) → ReadsItems all text y
      → (more : List ℕ) × (all ≡ bytes ++ more) × ReadsItems more rest y
  pub back : (more y : List ℕ) → ReadsItems more rest y → ReadsItems (bytes ++ more) text y
  pub no_longer : length rest ≤ length text

pub nothing_read : (text : List ℕ) → IsReadSoFar text [] text
nothing_read text = record { forth = λ all y r. (all, refl, r); back = λ more y r. r; no_longer = omega arith }

pub same_pair : {A B : Type 0} (a a' : A) (b b' : B) → ◌≡◌ {A = Option (A × B)} (Some (a, b)) (Some (a', b'))
    → (a ≡ a') × (b ≡ b')
same_pair {A} {B} a a' b b' e = let pairs : ◌≡◌ {A = A × B} (a, b) (a', b') = cc in
    (ap (λ (p : A × B). p.0) pairs, ap (λ (p : A × B). p.1) pairs)

after_item : (bytes rest : List ℕ) (b : ℕ) (left : List ℕ) → item_at rest ≡ Some (b, left) → (all more y : List ℕ)
    → all ≡ bytes ++ more → ReadsItems more rest y
    → (more' : List ℕ) × (all ≡ (bytes ++ b ∷ []) ++ more') × ReadsItems more' left y
after_item bytes rest b left e all [] y a r = let no : item_at (34 ∷ y) ≡ Some (b, left) = ap item_at (sym r) ∙ e in cc
after_item bytes rest b left e all (c ∷ cs) y a r =
    let same = same_pair c b r.0 left (sym r.1 ∙ e) in (
      cs,
      a ∙ ap (λ x. bytes ++ x ∷ cs) same.0 ∙ sym (append_assoc bytes (b ∷ []) cs),
      subst (λ l. ReadsItems cs l y) same.1 r.2,
    )

pub item_read : (text bytes rest : List ℕ) (b : ℕ) (left : List ℕ) → item_at rest ≡ Some (b, left)
    → length left < length rest → IsReadSoFar text bytes rest → IsReadSoFar text (bytes ++ b ∷ []) left
item_read text bytes rest b left e shorter so_far = record {
  forth = λ all y r. let before = so_far.forth all y r in
      after_item bytes rest b left e all before.0 y before.1 before.2;
  back = λ more y r. subst (λ all. ReadsItems all text y) (sym (append_assoc bytes (b ∷ []) more))
      (so_far.back (b ∷ more) y (left, e, r));
  no_longer = omega (arith, so_far.no_longer);
}

not_item : (rest : List ℕ) → item_at rest ≡ None → ((left : List ℕ) → rest ≡ 34 ∷ left → ⊥) → (more y : List ℕ)
    → ReadsItems more rest y → ⊥
not_item rest no_item no_quote [] y r = no_quote y r
not_item rest no_item no_quote (c ∷ cs) y r = let no = sym no_item ∙ r.1 in cc

-- the bytes up to a closing quote
pub all_read : (text bytes rest left : List ℕ) → IsReadSoFar text bytes rest
    → rest ≡ 34 ∷ left → ReadsItems bytes text left
all_read text bytes rest left so_far e =
    subst (λ all. ReadsItems all text left) (append-nil bytes) (so_far.back [] left e)

-- neither an item nor a quote comes next
pub none_read : (text bytes rest : List ℕ) → IsReadSoFar text bytes rest
    → item_at rest ≡ None → ((left : List ℕ) → rest ≡ 34 ∷ left → ⊥) → (all y : List ℕ) → ReadsItems all text y → ⊥
none_read text bytes rest so_far no_item no_quote all y r = let before = so_far.forth all y r in
    not_item rest no_item no_quote before.0 y before.2

pub left_shorter : (text bytes rest left : List ℕ) → IsReadSoFar text bytes rest
    → rest ≡ 34 ∷ left → length left < length text
left_shorter text bytes rest left so_far e = omega (arith, so_far.no_longer, ap length e)

-- ---- what is read between quotes is determined

pub items_only : (bytes bytes' x y z : List ℕ) → ReadsItems bytes x y → ReadsItems bytes' x z
    → (bytes ≡ bytes') × (y ≡ z)
items_only [] [] x y z r s = let same : ◌≡◌ {A = List ℕ} (34 ∷ y) (34 ∷ z) = sym r ∙ s in (refl, cc)
items_only [] (c ∷ cs) x y z r s = let no : ◌≡◌ {A = Option (ℕ × List ℕ)} None (Some (c, s.0)) = ap item_at (sym r)
    ∙ s.1 in absurd (cc)
items_only (b ∷ bs) [] x y z r s = let no : ◌≡◌ {A = Option (ℕ × List ℕ)} None (Some (b, r.0)) = ap item_at (sym s)
    ∙ r.1 in absurd (cc)
items_only (b ∷ bs) (c ∷ cs) x y z r s =
    let same = same_pair b c r.0 s.0 (sym r.1 ∙ s.1) in
    let rest = items_only bs cs r.0 y z r.2 (subst (λ l. ReadsItems cs l z) (sym same.1) s.2) in
    (ap (λ l. l ∷ bs) same.0 ∙ ap (λ l. c ∷ l) rest.0, rest.1)

-- ---- bytes that stand for themselves

plain-item : (b : ℕ) (bs : List ℕ) (q k : Bool)
    → (b == 34) ≡ q → (b == 92) ≡ k → (not q && not k) ≡ true → item_at (b ∷ bs) ≡ Some (b, bs)
plain-item b bs true k p r h = absurd (cc)
plain-item b bs false true p r h = absurd (cc)
plain-item b bs false false p r h = ap (λ c. cond c None (cond (b == 92) (escape_at bs) (Some (b, bs)))) p
    ∙ ap (λ c. cond c (escape_at bs) (Some (b, bs))) r

abbrev After : List ℕ → List ℕ → List ℕ → ℕ → Type 0
After text bytes rest n = IsReadSoFar text (bytes ++ take n rest) (drop n rest)

run_more : (text bytes : List ℕ) (b : ℕ) (bs : List ℕ) (plain : Bool)
    → is_plain b ≡ plain → IsReadSoFar text bytes (b ∷ bs)
    → ((more : List ℕ) → IsReadSoFar text more bs → After text more bs (prefix_len is_plain bs))
    → After text bytes (b ∷ bs) (cond plain (1 + prefix_len is_plain bs) 0)
run_more text bytes b bs true e so_far next =
    let one : 1 + prefix_len is_plain bs ≡ suc (prefix_len is_plain bs) = omega arith in
    let read : IsReadSoFar text (bytes ++ b ∷ []) bs =
    item_read text bytes (b ∷ bs) b bs (plain-item b bs (b == 34) (b == 92) refl refl e) (omega arith) so_far in
    subst (After text bytes (b ∷ bs)) (sym one)
    (subst (λ l. IsReadSoFar text l (drop (prefix_len is_plain bs) bs))
    (append_assoc bytes (b ∷ []) (take (prefix_len is_plain bs) bs)) (next (bytes ++ b ∷ []) read))
run_more text bytes b bs false e so_far next = subst (λ l. IsReadSoFar text l (b ∷ bs)) (sym (append-nil bytes)) so_far

pub run_read : (text bytes rest : List ℕ) → IsReadSoFar text bytes rest
    → After text bytes rest (prefix_len is_plain rest)
run_read text bytes [] so_far = subst (λ l. IsReadSoFar text l []) (sym (append-nil bytes)) so_far
run_read text bytes (b ∷ bs) so_far =
    run_more text bytes b bs (is_plain b) refl so_far (λ more h. run_read text more bs h)

-- ---- the bytes of a quoted name with escapes

-- the run that a quoted name begins with
pub run_at_start : (text run rest bytes : List ℕ) (n : ℕ) → n ≡ prefix_len is_plain text → run ≡ take n text
    → rest ≡ drop n text → bytes ≡ run → IsReadSoFar text bytes rest
run_at_start text run rest bytes n e f g h =
    subst (λ l. IsReadSoFar text l rest) (sym (h ∙ f ∙ ap (λ k. take k text) e))
    (subst (IsReadSoFar text (take (prefix_len is_plain text) text)) (sym (g ∙ ap (λ k. drop k text) e))
    (run_read text [] text (nothing_read text)))

-- an escape, and the run after it
pub run_after : (text bytes rest after left run rest' bytes' : List ℕ) (b : ℕ) → IsReadSoFar text bytes rest
    → rest ≡ 92 ∷ after → escape_at after ≡ Some (b, left) → length left < length after
    → run ≡ take (prefix_len is_plain left) left → rest' ≡ drop (prefix_len is_plain left) left
    → bytes' ≡ (bytes ++ b ∷ []) ++ run → IsReadSoFar text bytes' rest'
run_after text bytes rest after left run rest' bytes' b so_far e escaped shorter f g h =
    let item : item_at rest ≡ Some (b, left) = ap item_at e ∙ escaped in
    let read = item_read text bytes rest b left item (omega (arith, ap length e)) so_far in
    subst (λ l. IsReadSoFar text l rest') (sym (h ∙ ap (λ l. (bytes ++ b ∷ []) ++ l) f))
    (subst (IsReadSoFar text ((bytes ++ b ∷ []) ++ take (prefix_len is_plain left) left)) (sym g)
    (run_read text (bytes ++ b ∷ []) left read))

pub rest_stops : (x rest : List ℕ) (n : ℕ) → n ≡ prefix_len is_plain x → rest ≡ drop n x → prefix_len is_plain rest ≡ 0
rest_stops x rest n e f = ap (prefix_len is_plain) (f ∙ ap (λ k. drop k x) e) ∙ prefix_len-rest is_plain x

-- what an escape is not
pub no_escape : (rest after : List ℕ) → rest ≡ 92 ∷ after → escape_at after ≡ None → item_at rest ≡ None
no_escape rest after e h = ap item_at e ∙ h

pub no_quote : (rest after : List ℕ) → rest ≡ 92 ∷ after → (left : List ℕ) → rest ≡ 34 ∷ left → ⊥
no_quote rest after e left h = let same : ◌≡◌ {A = List ℕ} (92 ∷ after) (34 ∷ left) = sym e ∙ h in
    let first : ◌≡◌ {A = ℕ} 92 34 = cc in omega (arith, first)

plain-stop : (b : ℕ) (bs : List ℕ) (q k : Bool)
    → (b == 34) ≡ q → (b == 92) ≡ k → cond (not q && not k) (1 + prefix_len is_plain bs) 0 ≡ 0
    → ((left : List ℕ) → ◌≡◌ {A = List ℕ} (b ∷ bs) (92 ∷ left) → ⊥) → item_at (b ∷ bs) ≡ None
plain-stop b bs true k p r h other = ap (λ c. cond c None (cond (b == 92) (escape_at bs) (Some (b, bs)))) p
plain-stop b bs false true p r h other = let is : b ≡ 92 = grind (arith, nat_tests) in
    absurd (other bs (ap (λ n. n ∷ bs) is))
plain-stop b bs false false p r h other = absurd (omega (arith, h))

-- if a run doesn't stop at a backslash, no item comes next
pub no_item : (rest : List ℕ)
    → prefix_len is_plain rest ≡ 0 → ((left : List ℕ) → rest ≡ 92 ∷ left → ⊥) → item_at rest ≡ None
no_item [] h other = refl
no_item (b ∷ bs) h other = plain-stop b bs (b == 34) (b == 92) refl refl h other

-- ---- a number of few digits

few-bound : (ds : List ℕ) → AllDigits 10 ds → length ds ≤ 17 → digits_value 10 ds < 10 ^ 17
few-bound ds h le = digits_value_short (numerals_by_value (AllDigits 10) tells_digits) ds 17 h le

pub digits-few : (text : List ℕ) (i n : ℕ) → AllDigits 10 (take i text) → i < length text
    → length text ≤ 18 → n ≡ digits_value 10 (take i text) → n < 10 ^ 17
digits-few text i n h lt le e =
    let count : length (take i text) ≤ 17 = omega (arith, length-take-le i text (omega (arith, lt))) in
    let few = few-bound (take i text) h count in
    omega (arith, e, few)

pub digits-more : (text : List ℕ) (i : ℕ) → i < length text → AllDigits 10 (take i text)
    → IsInRange 48 57 (get_or text i 0) → AllDigits 10 (take (i + 1) text)
digits-more text i lt h r =
    digits_more 10 text i lt h (let d = digit_value_digit (get_or text i 0) r in omega (arith, d, r.0, r.1))

pub value-more : (text : List ℕ) (i n d : ℕ) → i < length text → n ≡ digits_value 10 (take i text)
    → IsInRange 48 57 (get_or text i 0) → d + 48 ≡ get_or text i 0
    → 10 * n + d ≡ digits_value 10 (take (i + 1) text)
value-more text i n d lt e r is =
    let digit = digit_value_digit (get_or text i 0) r in
    omega (arith, digits_value_more 10 text i lt, e, is, digit)

pub digit-range : (b : ℕ) → is_ascii_digit b ≡ true → IsInRange 48 57 b
digit-range b h = (grind (arith, nat_tests), grind (arith, nat_tests))
