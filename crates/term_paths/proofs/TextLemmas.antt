-- The text of paths.
use Rattle.std.proofs.Common.{◌≡◌, ℕ, ◌+◌, ◌<◌, ◌^◌, true, List, [], ◌∷◌, ◌++◌, length, drop, get_or, refl, sym, ap, ◌∙◌, arith, rules, Some, None, Ok, Err, append_assoc, append-nil}
use Rattle.std.specs.declared.option.Option.{Option}
use Rattle.std.specs.declared.result.Result.{Result}
use Rattle.std.specs.Char.{is_ascii_digit}
use Rattle.std.specs.List.{list_all}
use Rattle.std.specs.Str.{IsUtf8}
use Rattle.std.specs.Str.Parse.{digits_value, ParsesUnsigned}
use Rattle.std.proofs.lemmas.Bool.Decides.{nat_tests}
use Rattle.std.proofs.lemmas.Fmt.{IsAscii-from_digits}
use Rattle.std.proofs.lemmas.List.{drop_more, drop_all}
use Rattle.std.proofs.lemmas.Result.{OkIff-at_ok, OkIff-at_err}
use Rattle.std.proofs.lemmas.Str.{IsUtf8-from_ascii}
use Rattle.std.proofs.lemmas.Str.Parse.{IsNumeralModel, numerals_by_value, parse_digits}
use Rattle.term_paths.specs.PathText.{part_of, parts_of}

-- ---- one part

abbrev AreDigits : List ℕ → Type 0
AreDigits ds = list_all is_ascii_digit ds ≡ true

own : IsNumeralModel (λ ds. list_all is_ascii_digit ds ≡ true) (digits_value 10)
own = numerals_by_value _ (search rules)

pub digits_utf8 : (ds : List ℕ) → AreDigits ds → IsUtf8 ds
digits_utf8 ds h = IsUtf8-from_ascii ds (IsAscii-from_digits ds (own.to ds h))

part_of-some : (ds : List ℕ) → AreDigits ds → 0 < length ds
    → digits_value 10 ds < 2 ^ 32 → part_of ds ≡ Some (digits_value 10 ds)
part_of-some ds h some fits = grind (arith, nat_tests)

part_of-none : (ds : List ℕ) → ((0 < length ds) × (digits_value 10 ds < 2 ^ 32) → ⊥) → part_of ds ≡ None
part_of-none ds never = grind (arith, nat_tests)

pub part_parsed : {E : Type 0} (ds : List ℕ) (r : Result ℕ E) (n : ℕ) → AreDigits ds → ParsesUnsigned 32 10 ds r
    → r ≡ Ok n → Some n ≡ part_of ds
part_parsed ds r n h parsed e =
    let is = OkIff-at_ok r _ _ n (parse_digits own 32 ds r parsed h) e in
    ap Some is.1 ∙ sym (part_of-some ds h is.0.0 is.0.1)

pub part_refused : {E : Type 0} (ds : List ℕ) (r : Result ℕ E) (d : E) → AreDigits ds → ParsesUnsigned 32 10 ds r
    → r ≡ Err d → None ≡ part_of ds
part_refused ds r d h parsed e = sym (part_of-none ds (OkIff-at_err r _ _ d (parse_digits own 32 ds r parsed h) e))

-- ---- all parts

-- the parts before these, if these exist
abbrev pub after : List ℕ → Option (List ℕ) → Option (List ℕ)
after xs None = None
after xs (Some ys) = Some (xs ++ ys)

after-nil : (o : Option (List ℕ)) → after [] o ≡ o
after-nil None = refl
after-nil (Some ys) = refl

pub no_parts_yet : (xs : List ℕ) (pieces : List (List ℕ)) → xs ≡ [] → parts_of pieces ≡ after xs (parts_of pieces)
no_parts_yet xs pieces e = sym (ap (λ l. after l (parts_of pieces)) e ∙ after-nil (parts_of pieces))

add_part : (xs : List ℕ) (part : ℕ) (o : Option (List ℕ)) (piece : List ℕ) (pieces : List (List ℕ))
    → part_of piece ≡ Some part → parts_of pieces ≡ o → after xs (parts_of (piece ∷ pieces)) ≡ after (xs ++ part ∷ []) o
add_part xs part None piece pieces e is = grind arith
add_part xs part (Some ys) piece pieces e is = grind (arith, append_assoc)

pub one_more_part : (pieces : List (List ℕ)) (k : ℕ) (piece : List ℕ) (xs : List ℕ) (part : ℕ)
    → (k < length pieces) × (piece ≡ get_or pieces k piece) → part_of piece ≡ Some part
    → after xs (parts_of (drop k pieces)) ≡ after (xs ++ part ∷ []) (parts_of (drop (k + 1) pieces))
one_more_part pieces k piece xs part h e =
    ap (λ l. after xs (parts_of l)) (drop_more pieces k piece h.0 ∙ ap (λ p. p ∷ drop (k + 1) pieces) (sym h.1))
    ∙ add_part xs part (parts_of (drop (k + 1) pieces)) piece (drop (k + 1) pieces) e refl

pub no_part : (pieces : List (List ℕ)) (k : ℕ) (piece : List ℕ) (xs : List ℕ) → (k < length pieces)
    × (piece ≡ get_or pieces k piece) → part_of piece ≡ None → after xs (parts_of (drop k pieces)) ≡ None
no_part pieces k piece xs h e =
    ap (λ l. after xs (parts_of l)) (drop_more pieces k piece h.0 ∙ ap (λ p. p ∷ drop (k + 1) pieces) (sym h.1))
    ∙ no_part_first xs piece (drop (k + 1) pieces) e
  where
    no_part_first : (xs piece : List ℕ) (pieces : List (List ℕ))
        → part_of piece ≡ None → after xs (parts_of (piece ∷ pieces)) ≡ None
    no_part_first xs piece pieces e = grind arith

pub all_parts : (pieces : List (List ℕ)) (k : ℕ) (xs : List ℕ) → k ≡ length pieces
    → after xs (parts_of (drop k pieces)) ≡ Some xs
all_parts pieces k xs e = ap (λ l. after xs (parts_of l)) (drop_all k pieces (omega arith)) ∙ ap Some (append-nil xs)
