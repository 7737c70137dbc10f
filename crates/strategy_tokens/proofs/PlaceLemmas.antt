-- The places of the tokens of a text, piece by piece.
use Rattle.std.proofs.Common.{◌≡◌, ℕ, zero, suc, ◌+◌, ◌-◌, ◌≤◌, List, [], ◌∷◌, length, take, drop, Some, None, refl, sym, ap, ◌∙◌, arith}
use Rattle.std.specs.declared.option.Option.{Option}
use Rattle.std.specs.List.{slice_get}
use Rattle.strategy_tokens.specs.declared.token.Token.{Token}
use Rattle.strategy_tokens.specs.declared.place.TokenPlace.{TokenPlace}
use Rattle.strategy_tokens.specs.Tokens.{tokens_after, tokens, and_token, piece_at}
use Rattle.strategy_tokens.specs.Places.{and_place, place_at, places_after, places}
use Rattle.strategy_tokens.specs.inside.Pieces.{piece_token}
use Rattle.strategy_tokens.specs.declared.scan.Scanned.{Scanned}
use Rattle.strategy_tokens.specs.declared.scan.Scanned.TheVariants.{White, Word, Integer as PInteger, Text as PText, Sign as PSign, Bad as PBad}
use Rattle.strategy_tokens.proofs.ScanLemmas.{drop-rest}

places_after-drop : (n at : ℕ) (x : List ℕ) → places_after at n x ≡ places_after (at + n) 0 (drop n x)
places_after-drop zero at [] = refl
places_after-drop zero at (b ∷ bs) =
    let same : at ≡ at + 0 = omega arith in ap (λ k. places_after k 0 (b ∷ bs)) same
places_after-drop (suc n) at [] = refl
places_after-drop (suc n) at (b ∷ bs) =
    let same : suc at + n ≡ at + suc n = omega arith in
    places_after-drop n (suc at) bs ∙ ap (λ k. places_after k 0 (drop n bs)) same

-- one piece of a text: the place of its token, and those after it
pub places_step : (left rest : List ℕ) (b k at : ℕ) (t : Option Token)
    → left ≡ b ∷ rest → t ≡ (piece_at b rest).token → k ≡ (piece_at b rest).more → k ≤ length rest
    → places_after at 0 left
    ≡ and_place t (place_at at k) (places_after (at + 1 + k) 0 (take (length rest - k) (drop k rest)))
places_step left rest b k at t e token more bound =
    let same : suc at + k ≡ at + 1 + k = omega arith in
    let after : places_after (suc at) k rest ≡ places_after (at + 1 + k) 0 (take (length rest - k) (drop k rest)) =
    places_after-drop k (suc at) rest
    ∙ (ap (λ n. places_after n 0 (drop k rest)) same
    ∙ ap (places_after (at + 1 + k) 0) (sym (drop-rest k rest bound))) in
    ap (places_after at 0) e
    ∙ (ap (λ o. and_place o (place_at at (piece_at b rest).more) (places_after (suc at) (piece_at b rest).more rest))
    (sym token)
    ∙ (ap (λ n. and_place t (place_at at n) (places_after (suc at) n rest)) (sym more)
    ∙ ap (and_place t (place_at at k)) after))

-- each token has its place
and_lengths : (t : Option Token) (p : TokenPlace) (places : List TokenPlace) (ts : List Token)
    → length places ≡ length ts → length (and_place t p places) ≡ length (and_token t ts)
and_lengths None p places ts e = e
and_lengths (Some t) p places ts e = ap suc e

lengths : (x : List ℕ) (n at : ℕ) → length (places_after at n x) ≡ length (tokens_after n x)
lengths [] n at = refl
lengths (b ∷ bs) (suc n) at = lengths bs n (suc at)
lengths (b ∷ bs) zero at =
    and_lengths (piece_at b bs).token (place_at at (piece_at b bs).more) (places_after (suc at) (piece_at b bs).more bs)
    (tokens_after (piece_at b bs).more bs)
    (lengths bs (piece_at b bs).more (suc at))

past : (xs : List TokenPlace) (k : ℕ) → slice_get xs k ≡ None → length xs ≤ k
past [] k e = omega arith
past (x ∷ xs) zero e = let no : ◌≡◌ {A = Option TokenPlace} (Some x) None = e in cc
past (x ∷ xs) (suc k) e = let below = past xs k e in omega arith

pub place-past : (x : List ℕ) (k : ℕ) → slice_get (places x) k ≡ None → length (tokens x) ≤ k
place-past x k e = let same = lengths x 0 0 in let below = past (places x) k e in omega arith

-- ---- what is looked for after a piece

pub white-same : (p : Scanned) (at : TokenPlace) (n m : ℕ) (xs : List TokenPlace)
    → p ≡ White → m ≡ n → slice_get (and_place (piece_token p) at xs) n ≡ slice_get xs m
white-same p at n m xs white same = ap (λ q. slice_get (and_place (piece_token q) at xs) n) white
    ∙ ap (slice_get xs) (sym same)

less : (at : TokenPlace) (n m : ℕ) (xs : List TokenPlace)
    → (n ≡ 0 → ⊥) → m ≡ n - 1 → slice_get (at ∷ xs) n ≡ slice_get xs m
less at zero m xs some same = absurd (some refl)
less at (suc n) m xs some same = let is : n ≡ m = omega arith in ap (slice_get xs) is

pub token-less : (p : Scanned) (at : TokenPlace) (n m : ℕ) (xs : List TokenPlace)
    → (p ≡ White → ⊥) → (n ≡ 0 → ⊥) → m ≡ n - 1 → slice_get (and_place (piece_token p) at xs) n ≡ slice_get xs m
token-less White at n m xs token some same = absurd (token refl)
token-less (Word x) at n m xs token some same = less at n m xs some same
token-less (PInteger z) at n m xs token some same = less at n m xs some same
token-less (PText x) at n m xs token some same = less at n m xs some same
token-less (PSign s) at n m xs token some same = less at n m xs some same
token-less PBad at n m xs token some same = less at n m xs some same

pub token-here : (p : Scanned) (at : TokenPlace) (n : ℕ) (xs : List TokenPlace)
    → (p ≡ White → ⊥) → n ≡ 0 → slice_get (and_place (piece_token p) at xs) n ≡ Some at
token-here White at n xs token is = absurd (token refl)
token-here (Word x) at n xs token is = ap (slice_get (at ∷ xs)) is
token-here (PInteger z) at n xs token is = ap (slice_get (at ∷ xs)) is
token-here (PText x) at n xs token is = ap (slice_get (at ∷ xs)) is
token-here (PSign s) at n xs token is = ap (slice_get (at ∷ xs)) is
token-here PBad at n xs token is = ap (slice_get (at ∷ xs)) is

pub nothing-left : (at k : ℕ) (xs : List ℕ) → length xs ≡ 0 → slice_get (places_after at 0 xs) k ≡ None
nothing-left at k [] e = refl
nothing-left at k (b ∷ bs) e = absurd (omega arith)
