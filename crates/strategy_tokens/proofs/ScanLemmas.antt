-- Laws of the pieces of a text, for the functions that find them.
use Rattle.std.proofs.Common.{◌≡◌, ℕ, zero, suc, ◌+◌, ◌-◌, ◌≤◌, ◌<◌, ◌==◌, ◌&&◌, List, [], ◌∷◌, ◌++◌, append_assoc, append-nil, length, take, drop, Some, None, refl, sym, ap, ◌∙◌, arith, add-one, subst, cond, Bool, true, false}
use Rattle.std.specs.declared.option.Option.{Option}
use Rattle.std.specs.Option.{option_map}
use Rattle.std.specs.List.{prefix_len, list_all}
use Rattle.std.specs.Char.{is_ascii_digit, digit_value}
use Rattle.std.specs.Str.Parse.{IsNumeral, AllDigits, without_leading_sign}
use Rattle.std.proofs.lemmas.Grind.{common_steps}
use Rattle.std.proofs.lemmas.Bool.Decides.{nat_tests}
use Rattle.term_core.specs.Word.{is_word, continues_word}
use Rattle.term_core.specs.Word.{begins_word}
use Rattle.strategy_tokens.specs.declared.token.Token.{Token}
use Rattle.strategy_tokens.specs.Tokens.{tokens_after, tokens, and_token, piece_at, continues_ident, begins_with, ident_len}

pub drop-rest : {X : Type 0} (n : ℕ) (xs : List X) → n ≤ length xs → take (length xs - n) (drop n xs) ≡ drop n xs
drop-rest n xs h = grind (arith, common_steps)

-- ---- the bytes of a token: its first one, and those after it

pub first_and : (k n b : ℕ) (x bs : List ℕ) → k ≡ n → x ≡ b ∷ bs → take (k + 1) x ≡ b ∷ take n bs
first_and k n b x bs e f = ap (take (k + 1)) f ∙ rw add-one (ap (λ m. b ∷ take m bs) e)

pub first_two_and : (k n a b : ℕ) (x bs : List ℕ) → k ≡ n → x ≡ a ∷ (b ∷ bs)
    → take (k + 2) x ≡ a ∷ (b ∷ take n bs)
first_two_and k n a b x bs e f =
    let two : k + 2 ≡ suc (suc k) = omega arith in
    ap (take (k + 2)) f ∙ rw two (ap (λ m. a ∷ (b ∷ take m bs)) e)

-- ---- identifiers are words

goes_on : (b : ℕ) (bs : List ℕ) (ahead : Bool) → begins_with 62 bs ≡ ahead
    → continues_ident b bs ≡ true → continues_word b ≡ true
goes_on b bs ahead e h = grind (arith, nat_tests)

ident_bytes_from : (b : ℕ) (bs : List ℕ) (test : Bool) → continues_ident b bs ≡ test
    → list_all continues_word (take (ident_len bs) bs) ≡ true
    → list_all continues_word (take (cond test (suc (ident_len bs)) 0) (b ∷ bs)) ≡ true
ident_bytes_from b bs true e h = grind (arith, goes_on b bs (begins_with 62 bs) refl e)
ident_bytes_from b bs false e h = refl

ident_bytes : (bs : List ℕ) → list_all continues_word (take (ident_len bs) bs) ≡ true
ident_bytes [] = refl
ident_bytes (b ∷ bs) = ident_bytes_from b bs (continues_ident b bs) refl (ident_bytes bs)

pub identifier : (k b : ℕ) (x bs : List ℕ) → k ≡ ident_len bs → x ≡ b ∷ bs → begins_word b ≡ true
    → is_word (take (k + 1) x) ≡ true
identifier k b x bs e f h =
    ap is_word (first_and k (ident_len bs) b x bs e f)
    ∙ (ap (λ t. t && list_all continues_word (take (ident_len bs) bs)) h ∙ ident_bytes bs)

-- ---- a larger number, if there is one

abbrev pub later : ℕ → Option ℕ → Option ℕ
later k None = None
later k (Some n) = Some (k + n)

pub later-zero : (o : Option ℕ) → o ≡ later 0 o
later-zero None = refl
later-zero (Some n) = let e : n ≡ 0 + n = omega arith in ap (λ m. Some m) e

pub later-suc : (k : ℕ) (o : Option ℕ) → later k (option_map suc o) ≡ later (k + 1) o
later-suc k None = refl
later-suc k (Some n) = let e : k + suc n ≡ k + 1 + n = omega arith in ap (λ m. Some m) e

-- the tokens after the first n bytes are those of the rest
pub tokens_after-drop : (n : ℕ) (x : List ℕ) → tokens_after n x ≡ tokens (drop n x)
tokens_after-drop zero x = refl
tokens_after-drop (suc n) [] = refl
tokens_after-drop (suc n) (b ∷ bs) = tokens_after-drop n bs

and_token-append : (t : Option Token) (found ts : List Token)
    → (found ++ and_token t []) ++ ts ≡ found ++ and_token t ts
and_token-append None found ts = ap (λ l. l ++ ts) (append-nil found)
and_token-append (Some t) found ts = append_assoc found (t ∷ []) ts

-- one piece of a text: its token, followed by the tokens after it
pub tokens_step : (text left rest : List ℕ) (b k : ℕ) (found found' : List Token) (t : Option Token)
    → found ++ tokens left ≡ tokens text → left ≡ b ∷ rest → t ≡ (piece_at b rest).token
    → k ≡ (piece_at b rest).more → k ≤ length rest → found' ≡ found ++ and_token t []
    → found' ++ tokens (take (length rest - k) (drop k rest)) ≡ tokens text
tokens_step text left rest b k found found' t so_far e token more bound added =
    let after : tokens_after (piece_at b rest).more rest ≡ tokens (drop k rest) =
    tokens_after-drop (piece_at b rest).more rest ∙ ap (λ n. tokens (drop n rest)) (sym more) in
    let here : tokens left ≡ and_token t (tokens (drop k rest)) =
    ap tokens e ∙ (ap (λ o. and_token o (tokens_after (piece_at b rest).more rest)) (sym token)
    ∙ ap (and_token t) after) in
    ap (λ l. found' ++ tokens l) (drop-rest k rest bound)
    ∙ (ap (λ l. l ++ tokens (drop k rest)) added ∙ (and_token-append t found (tokens (drop k rest))
    ∙ (ap (λ l. found ++ l) (sym here) ∙ so_far)))

-- ---- integers

-- a digit is below ten
digit_below : (b : ℕ) → is_ascii_digit b ≡ true → digit_value b < 10
digit_below b e = grind (arith, nat_tests)

all_digits_from : (b : ℕ) (bs : List ℕ) (test : Bool) → is_ascii_digit b ≡ test
    → AllDigits 10 (take (prefix_len is_ascii_digit bs) bs)
    → AllDigits 10 (take (cond test (1 + prefix_len is_ascii_digit bs) 0) (b ∷ bs))
all_digits_from b bs true e h =
    let one : 1 + prefix_len is_ascii_digit bs ≡ suc (prefix_len is_ascii_digit bs) = omega arith in
    subst (λ n. AllDigits 10 (take n (b ∷ bs))) (sym one) (digit_below b e, h)
all_digits_from b bs false e h = tt

all_digits : (bs : List ℕ) → AllDigits 10 (take (prefix_len is_ascii_digit bs) bs)
all_digits [] = tt
all_digits (b ∷ bs) = all_digits_from b bs (is_ascii_digit b) refl (all_digits bs)

numeral_from : (b : ℕ) (bs : List ℕ) (minus plus : Bool) → (b == 45) ≡ minus → (b == 43) ≡ plus
    → is_ascii_digit b ≡ true → AllDigits 10 bs
    → IsNumeral 10 (cond minus bs (drop (cond plus 1 0) (b ∷ bs)))
numeral_from b bs true plus m p d h = absurd (grind (arith, nat_tests))
numeral_from b bs false true m p d h = absurd (grind (arith, nat_tests))
numeral_from b bs false false m p d h = (omega arith, (digit_below b d, h))

-- a digit and the digits after it are a numeral
pub numeral : (k b : ℕ) (x bs : List ℕ) → k ≡ prefix_len is_ascii_digit bs → x ≡ b ∷ bs
    → is_ascii_digit b ≡ true → IsNumeral 10 (without_leading_sign (take (k + 1) x))
numeral k b x bs e f d = subst (λ l. IsNumeral 10 (without_leading_sign l))
    (sym (first_and k (prefix_len is_ascii_digit bs) b x bs e f))
    (numeral_from b (take (prefix_len is_ascii_digit bs) bs) (b == 45) (b == 43) refl refl d (all_digits bs))

-- the same after a `-`
pub negative_numeral : (k b : ℕ) (x bs : List ℕ) → k ≡ prefix_len is_ascii_digit bs
    → x ≡ 45 ∷ (b ∷ bs) → is_ascii_digit b ≡ true
    → IsNumeral 10 (without_leading_sign (take (k + 2) x))
negative_numeral k b x bs e f d = subst (λ l. IsNumeral 10 (without_leading_sign l))
    (sym (first_two_and k (prefix_len is_ascii_digit bs) 45 b x bs e f))
    (omega arith, (digit_below b d, all_digits bs))

pub ruleset scan_parts = (drop-rest, later-zero, later-suc, tokens_after-drop)
