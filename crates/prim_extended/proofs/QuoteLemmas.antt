-- Texts between quotes.
use Rattle.std.proofs.Common.{◌≡◌, ℕ, true, false, Bool, List, [], ◌∷◌, ◌++◌, Some, None, refl, sym, ap, ◌∙◌, cond, if◌then◌else◌, arith}
use Rattle.std.specs.Prelude.{◌==◌}
use Rattle.std.proofs.lemmas.Bool.Decides.{nat_tests}
use Rattle.std.specs.Option.{option_map}
use Rattle.prim_extended.specs.Constructors.{before_quote}

one_more : (c : ℕ) (xs : List ℕ) (b : Bool)
    → option_map (λ inner. c ∷ inner) (if b then Some xs else None) ≡ (if b then Some (c ∷ xs) else None)
one_more c xs true = refl
one_more c xs false = refl

pub before_quote-append : (xs : List ℕ) (b : ℕ) → before_quote (xs ++ b ∷ []) ≡ (if b == 34 then Some xs else None)
before_quote-append [] b = refl
before_quote-append (c ∷ []) b = one_more c [] (b == 34)
before_quote-append (c ∷ d ∷ xs) b = ap (option_map (λ inner. c ∷ inner)) (before_quote-append (d ∷ xs) b)
    ∙ one_more c (d ∷ xs) (b == 34)

pub closed : (text front : List ℕ) (last : ℕ) → text ≡ front ++ last ∷ [] → last ≡ 34 → Some front ≡ before_quote text
closed text front last is e =
    let b : (last == 34) ≡ true = grind (arith, nat_tests) in
    sym (ap before_quote is ∙ before_quote-append front last ∙ ap (λ b. cond b (Some front) None) b)

pub not_closed : (text front : List ℕ) (last : ℕ)
    → text ≡ front ++ last ∷ [] → (last ≡ 34 → ⊥) → None ≡ before_quote text
not_closed text front last is e =
    let b : (last == 34) ≡ false = grind (arith, nat_tests) in
    sym (ap before_quote is ∙ before_quote-append front last ∙ ap (λ b. cond b (Some front) None) b)
