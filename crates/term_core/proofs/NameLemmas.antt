-- The longest prefix of a text that may be a word is one.
use Rattle.std.proofs.Common.{◌≡◌, ℕ, ◌+◌, ◌&&◌, cond, Bool, true, false, List, [], ◌∷◌, take, refl, ap, ◌∙◌, arith, suc}
use Rattle.std.specs.List.{list_all, prefix_len}
use Rattle.term_core.specs.Word.{begins_word, continues_word, is_word}

abbrev Taken : List ℕ → Type 0
Taken bs = list_all continues_word (take (prefix_len continues_word bs) bs) ≡ true

taken : (b : ℕ) (bs : List ℕ) (goes_on : Bool) → continues_word b ≡ goes_on → Taken bs
    → list_all continues_word (take (cond goes_on (1 + prefix_len continues_word bs) 0) (b ∷ bs)) ≡ true
taken b bs true e h =
    let one : 1 + prefix_len continues_word bs ≡ suc (prefix_len continues_word bs) = omega arith in
    ap (λ i. list_all continues_word (take i (b ∷ bs))) one
    ∙ ap (λ c. c && list_all continues_word (take (prefix_len continues_word bs) bs)) e ∙ h
taken b bs false e h = refl

list_all-taken : (bs : List ℕ) → Taken bs
list_all-taken [] = refl
list_all-taken (b ∷ bs) = taken b bs (continues_word b) refl (list_all-taken bs)

pub front-is-word : (b : ℕ) (bs text front : List ℕ) (n : ℕ)
    → begins_word b ≡ true → text ≡ b ∷ bs → n ≡ prefix_len continues_word bs
    → front ≡ take (1 + n) text → is_word front ≡ true
front-is-word b bs text front n h e m k =
    let one : 1 + n ≡ suc n = omega arith in
    ap is_word (k ∙ ap (take (1 + n)) e ∙ ap (λ i. take i (b ∷ bs)) one ∙ ap (λ i. b ∷ take i bs) m)
    ∙ ap (λ c. c && list_all continues_word (take (prefix_len continues_word bs) bs)) h ∙ list_all-taken bs
