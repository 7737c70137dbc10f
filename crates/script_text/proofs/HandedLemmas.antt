-- Lemmas on commands as the splitter gives them, and on appending bytes to them.
use Rattle.std.proofs.Common.{◌≡◌, ◌<◌, ℕ, zero, suc, Bool, List, [], ◌∷◌, ◌++◌, length, nat_le, Some, None, option_map, refl, ap, ◌∙◌, arith, append_assoc, append-nil, if◌then◌else◌}
use Rattle.std.specs.declared.option.Option.{Option}
use Rattle.std.proofs.lemmas.Bool.{lt-ltb}
use Rattle.std.proofs.lemmas.Bool.Decides.{nat_tests}
use Rattle.std.proofs.lemmas.List.{length-append}
use Rattle.script_text.specs.declared.TheConstants.{MAX_COMMAND}
use Rattle.script_text.specs.Handed.{Handed, text, long, handed_as}
use Rattle.script_text.specs.Splitting.{with_more, after_returns, one_more}

handed_long : (x : List ℕ) → MAX_COMMAND < length x → handed_as x ≡ long
handed_long x h = ap (λ (b : Bool). if b then long else text x) (lt-ltb MAX_COMMAND (length x) h)

pub with_more-handed_as : (xs ys : List ℕ) → with_more ys (handed_as xs) ≡ handed_as (xs ++ ys)
with_more-handed_as xs [] = grind (arith, append-nil)
with_more-handed_as xs (y ∷ ys) = grind (arith, nat_tests, length-append)

pub with_more-append : (xs ys : List ℕ) (c : Handed) → with_more ys (with_more xs c) ≡ with_more (xs ++ ys) c
with_more-append [] ys c = refl
with_more-append (x ∷ xs) ys (text bytes) = with_more-handed_as (bytes ++ x ∷ xs) ys
    ∙ ap handed_as (append_assoc bytes (x ∷ xs) ys)
with_more-append (x ∷ xs) [] long = refl
with_more-append (x ∷ xs) (y ∷ ys) long = refl

-- ---- carriage returns that were held back

length-after_returns : (n b : ℕ) → length (after_returns n b) ≡ suc n
length-after_returns zero b = refl
length-after_returns (suc n) b = ap suc (length-after_returns n b)

-- one carriage return is appended, followed by the others
pub more_return : (n left b : ℕ) (c : Option Handed) → suc n ≡ left →
    option_map (with_more (after_returns n b)) (option_map (with_more (13 ∷ [])) c)
    ≡ option_map (with_more (after_returns left b)) c
more_return n left b None e = refl
more_return n left b (Some c) e =
    ap Some (with_more-append (13 ∷ []) (after_returns n b) c)
    ∙ ap (λ (k : ℕ). Some (with_more (after_returns k b) c)) e

-- with too many of them every command is too long
too_many_returns : (n b : ℕ) (c : Handed) → MAX_COMMAND < n → with_more (after_returns n b) c ≡ long
too_many_returns zero b c h = absurd (omega (arith, h))
too_many_returns (suc n) b (text bytes) h = handed_long (bytes ++ after_returns (suc n) b)
    (omega (arith, h, length-append bytes (after_returns (suc n) b), length-after_returns (suc n) b))
too_many_returns (suc n) b long h = refl

pub too_many : (n b : ℕ) (c : Option Handed)
    → MAX_COMMAND < n → option_map (with_more (after_returns n b)) c ≡ option_map (λ _. long) c
too_many n b c h = grind (arith, too_many_returns)

-- the pending command is now too long
pub made_long : (is_there : Bool) (c : Handed)
    → (if is_there then Some long else None) ≡ option_map (λ _. long) (if is_there then Some c else None)
made_long is_there c = grind arith

-- as many of them as the machine counts
abbrev pub capped : ℕ → ℕ
capped n = if nat_le n MAX_COMMAND then n else suc MAX_COMMAND

pub capped-suc : (n : ℕ) → one_more (capped n) ≡ capped (suc n)
capped-suc n = grind (arith, nat_tests)

-- more of them than a command may have make it too long in any case
pub capped-more : (n b : ℕ) (c : Handed) → with_more (after_returns (capped n) b) c ≡ with_more (after_returns n b) c
capped-more n b c = grind (arith, nat_tests, too_many_returns)

pub capped-begun : (n b : ℕ) → handed_as (after_returns (capped n) b) ≡ handed_as (after_returns n b)
capped-begun n b = grind (arith, nat_tests, handed_long, length-after_returns)
