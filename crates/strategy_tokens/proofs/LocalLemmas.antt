-- A token depends on its own bytes and the two after them; what comes later doesn't change it.
use Rattle.std.proofs.Common.{◌≡◌, ℕ, zero, suc, ◌+◌, ◌≤◌, ◌<◌, ◌==◌, ◌&&◌, Bool, true, false, cond, List, [], ◌∷◌, ◌++◌, length, take, Some, None, refl, sym, ap, ◌∙◌, arith, subst, length-append}
use Rattle.std.specs.Prelude.{if◌then◌else◌}
use Rattle.std.specs.declared.option.Option.{Option}
use Rattle.std.specs.Option.{option_map}
use Rattle.std.specs.Char.{is_ascii_digit}
use Rattle.std.specs.List.{prefix_len, slice_get}
use Rattle.std.proofs.lemmas.List.{take-append-le}
use Rattle.aterm_text.specs.Signs.{quote, minus, backslash}
use Rattle.aterm_text.specs.Tokens.{is_blank}
use Rattle.term_core.specs.Word.{begins_word}
use Rattle.strategy_tokens.specs.declared.token.Token.{Token}
use Rattle.strategy_tokens.specs.declared.token.Token.TheVariants.{Sign as ASign, Bad}
use Rattle.strategy_tokens.specs.declared.token.Sign.TheVariants.{Arrow}
use Rattle.strategy_tokens.specs.Tokens.{Lexeme, white, token_of, is_no_line_feed, begins_with, comment_len, closed_comment, comment_piece, continues_ident, ident_len, ident_token, integer_token, minus_piece, quote_at, quote_after, unescaped, text_or_bad, closed_string, sign_piece, piece_at, and_token, tokens_after, tokens}
use Rattle.strategy_tokens.specs.declared.place.TokenPlace.{TokenPlace}
use Rattle.strategy_tokens.specs.Places.{and_place, place_at, places_after, places}

-- ---- one more than a number, if there is one

abbrev OneLess : Option ℕ → ℕ → Type 0
OneLess o k = (j : ℕ) × (o ≡ Some j) × (k ≡ suc j)

one_less : (o : Option ℕ) (k : ℕ) → option_map suc o ≡ Some k → OneLess o k
one_less None k e = let no : ◌≡◌ {A = Option ℕ} None (Some k) = e in cc
one_less (Some j) k e = let same : ◌≡◌ {A = Option ℕ} (Some (suc j)) (Some k) = e in (j, refl, cc)

up : (o p : Option ℕ) (n : ℕ) → option_map suc o ≡ Some n → ((j : ℕ) → o ≡ Some j → suc j ≡ n → p ≡ Some j)
    → option_map suc p ≡ Some n
up o p n e h =
    let less = one_less o n e in
    ap (option_map suc) (h less.0 less.1 (sym less.2)) ∙ ap (λ m. Some m) (sym less.2)

-- ---- how far something goes

one-step : (t : Bool) (m n l : ℕ) → cond t (1 + m) 0 < suc l → (m < l → n ≡ m) → cond t (1 + n) 0 ≡ cond t (1 + m) 0
one-step true m n l lt h = ap (λ k. 1 + k) (h (omega arith))
one-step false m n l lt h = refl

prefix-local : (p : ℕ → Bool) (u v w : List ℕ) → prefix_len p (u ++ v) < length u
    → prefix_len p (u ++ w) ≡ prefix_len p (u ++ v)
prefix-local p [] v w lt = absurd (omega arith)
prefix-local p (b ∷ u) v w lt =
    one-step (p b) (prefix_len p (u ++ v)) (prefix_len p (u ++ w)) (length u) lt (prefix-local p u v w)

ident-step : (t : Bool) (m n l : ℕ) → (if t then suc m else 0) + 2 ≤ suc l
    → (m + 2 ≤ l → n ≡ m) → (if t then suc n else 0) ≡ (if t then suc m else 0)
ident-step true m n l le h = ap suc (h (omega arith))
ident-step false m n l le h = refl

ident-local : (u v w : List ℕ) → ident_len (u ++ v) + 2 ≤ length u → ident_len (u ++ w) ≡ ident_len (u ++ v)
ident-local [] v w le = absurd (omega arith)
ident-local (b ∷ []) v w le = absurd (omega arith)
ident-local (b ∷ (c ∷ u)) v w le =
    ident-step (continues_ident b ((c ∷ u) ++ v)) (ident_len ((c ∷ u) ++ v)) (ident_len ((c ∷ u) ++ w)) (length (c ∷ u))
    le (ident-local (c ∷ u) v w)

-- a comment ends after two bytes at least
two-step : (t : Bool) (o : Option ℕ) (n : ℕ) → (if t then Some 2 else option_map suc o) ≡ Some n
    → ((j : ℕ) → o ≡ Some j → 2 ≤ j) → 2 ≤ n
two-step true o n e h = let same : ◌≡◌ {A = Option ℕ} (Some 2) (Some n) = e in let is : 2 ≡ n = cc in omega arith
two-step false o n e h =
    let less = one_less o n e in
    let below : 2 ≤ less.0 = h less.0 less.1 in
    let is : n ≡ suc less.0 = less.2 in
    omega arith

comment-two : (x : List ℕ) (n : ℕ) → comment_len x ≡ Some n → 2 ≤ n
comment-two [] n e = let no : ◌≡◌ {A = Option ℕ} None (Some n) = e in absurd (cc)
comment-two (b ∷ bs) n e = two-step ((b == 42) && begins_with 47 bs) (comment_len bs) n e (comment-two bs)

comment-step : (t : Bool) (o p : Option ℕ) (n l : ℕ) → (if t then Some 2 else option_map suc o) ≡ Some n → n ≤ suc l
    → ((j : ℕ) → o ≡ Some j → j ≤ l → p ≡ Some j) → (if t then Some 2 else option_map suc p) ≡ Some n
comment-step true o p n l e le h = e
comment-step false o p n l e le h = up o p n e (λ j at is. h j at (omega arith))

comment-local : (u v w : List ℕ) (n : ℕ) → comment_len (u ++ v) ≡ Some n → n ≤ length u → comment_len (u ++ w) ≡ Some n
comment-local [] v w n e le = let two = comment-two v n e in absurd (omega arith)
comment-local (b ∷ []) v w n e le = let two = comment-two (b ∷ v) n e in absurd (omega arith)
comment-local (b ∷ (c ∷ u)) v w n e le =
    comment-step ((b == 42) && begins_with 47 ((c ∷ u) ++ v)) (comment_len ((c ∷ u) ++ v)) (comment_len ((c ∷ u) ++ w))
    n (length (c ∷ u)) e le
    (comment-local (c ∷ u) v w)

quote-step : (s t : Bool) (a b c d : Option ℕ) (n l : ℕ)
    → (if s then Some 0 else if t then option_map suc a else option_map suc c) ≡ Some n → n < suc l
    → ((j : ℕ) → a ≡ Some j → j < l → b ≡ Some j) → ((j : ℕ) → c ≡ Some j → j < l → d ≡ Some j)
    → (if s then Some 0 else if t then option_map suc b else option_map suc d) ≡ Some n
quote-step true t a b c d n l e lt h k = e
quote-step false true a b c d n l e lt h k = up a b n e (λ j at is. h j at (omega arith))
quote-step false false a b c d n l e lt h k = up c d n e (λ j at is. k j at (omega arith))

mutual
  quote-local : (u v w : List ℕ) (n : ℕ) → quote_at (u ++ v) ≡ Some n → n < length u → quote_at (u ++ w) ≡ Some n
  quote-local [] v w n e lt = absurd (omega arith)
  quote-local (b ∷ u) v w n e lt =
      quote-step (b == quote) (b == backslash) (quote_after (u ++ v)) (quote_after (u ++ w)) (quote_at (u ++ v))
      (quote_at (u ++ w)) n (length u) e lt
      (λ j at below. after-local u v w j at below) (λ j at below. quote-local u v w j at below)

  after-local : (u v w : List ℕ) (n : ℕ) → quote_after (u ++ v) ≡ Some n → n < length u → quote_after (u ++ w) ≡ Some n
  after-local [] v w n e lt = absurd (omega arith)
  after-local (b ∷ u) v w n e lt =
      up (quote_at (u ++ v)) (quote_at (u ++ w)) n e (λ j at is. quote-local u v w j at (omega arith))

-- ---- pieces

-- the piece is the same whatever comes after it and so many bytes
abbrev Local : ℕ → (List ℕ → Lexeme) → Type 0
Local d f = (u v w : List ℕ) → (f (u ++ v)).more + d ≤ length u → f (u ++ w) ≡ f (u ++ v)

local_if : (d : ℕ) (c : Bool) (f g : List ℕ → Lexeme) → Local d f → Local d g → Local d (λ bs. if c then f bs else g bs)
local_if d true f g h k u v w le = h u v w le
local_if d false f g h k u v w le = k u v w le

same_take : (n : ℕ) (u v w : List ℕ) → n ≤ length u → take n (u ++ w) ≡ take n (u ++ v)
same_take n u v w le = take-append-le n u w le ∙ sym (take-append-le n u v le)

-- a token made of the first bytes
fronts : (T : List ℕ → Token) (k : ℕ → ℕ) (u v w : List ℕ) (n m : ℕ) → m ≡ n → n ≤ length u
    → token_of (T (take m (u ++ w))) (k m) ≡ token_of (T (take n (u ++ v))) (k n)
fronts T k u v w n m same le =
    ap (λ l. token_of (T (take l (u ++ w))) (k l)) same ∙ ap (λ l. token_of (T l) (k n)) (same_take n u v w le)

abbrev words : ℕ → List ℕ → Lexeme
words b bs = token_of (ident_token (b ∷ take (ident_len bs) bs)) (ident_len bs)

words-local : (b : ℕ) → Local 2 (words b)
words-local b u v w le =
    fronts (λ l. ident_token (b ∷ l)) (λ n. n) u v w (ident_len (u ++ v)) (ident_len (u ++ w)) (ident-local u v w le)
    (omega arith)

abbrev numbers : ℕ → List ℕ → Lexeme
numbers b bs = token_of (integer_token (b ∷ take (prefix_len is_ascii_digit bs) bs)) (prefix_len is_ascii_digit bs)

numbers-local : (b : ℕ) → Local 2 (numbers b)
numbers-local b u v w le =
    fronts (λ l. integer_token (b ∷ l)) (λ n. n) u v w
    (prefix_len is_ascii_digit (u ++ v)) (prefix_len is_ascii_digit (u ++ w))
    (prefix-local is_ascii_digit u v w (omega arith)) (omega arith)

abbrev negatives : ℕ → List ℕ → Lexeme
negatives b bs =
    token_of (integer_token (minus ∷ (b ∷ take (prefix_len is_ascii_digit bs) bs))) (suc (prefix_len is_ascii_digit bs))

negatives-local : (b : ℕ) → Local 1 (negatives b)
negatives-local b u v w le =
    fronts (λ l. integer_token (minus ∷ (b ∷ l))) suc u v w
    (prefix_len is_ascii_digit (u ++ v)) (prefix_len is_ascii_digit (u ++ w))
    (prefix-local is_ascii_digit u v w (omega arith)) (omega arith)

-- after a `-`
abbrev after_minus : ℕ → List ℕ → Lexeme
after_minus b bs = if (is_ascii_digit b) then negatives b bs else token_of Bad 0

minus-local : Local 2 minus_piece
minus-local [] v w le = absurd (omega arith)
minus-local (b ∷ u) v w le =
    local_if 1 (b == 62) (λ bs. token_of (ASign Arrow) 1) (after_minus b) (λ x y z h. refl)
    (local_if 1 (is_ascii_digit b) (negatives b) (λ bs. token_of Bad 0) (negatives-local b) (λ x y z h. refl)) u v w
    (omega arith)

-- comments
abbrev line_comment : List ℕ → Lexeme
line_comment bs = white (suc (prefix_len is_no_line_feed bs))

line_comment-local : Local 1 line_comment
line_comment-local u v w le = ap (λ n. white (suc n)) (prefix-local is_no_line_feed u v w (omega arith))

closed_comment-step : (o p : Option ℕ) (l k m : ℕ) → ((n : ℕ) → o ≡ Some n → n ≤ m → p ≡ Some n) → m ≤ l
    → (closed_comment o l).more + 1 ≤ m → closed_comment p k ≡ closed_comment o l
closed_comment-step None p l k m h long le = absurd (omega arith)
closed_comment-step (Some n) p l k m h long le = ap (λ q. closed_comment q k) (h n refl (omega arith))

abbrev long_comment : List ℕ → Lexeme
long_comment bs = closed_comment (comment_len bs) (length bs)

long_comment-local : Local 1 long_comment
long_comment-local u v w le =
    let total : length (u ++ v) ≡ length u + length v = length-append u v in
    closed_comment-step (comment_len (u ++ v)) (comment_len (u ++ w)) (length (u ++ v)) (length (u ++ w)) (length u)
    (λ n e below. comment-local u v w n e below) (omega arith) le

abbrev after_slash : ℕ → List ℕ → Lexeme
after_slash b bs = if (b == 42) then long_comment bs else token_of Bad 0

comment_piece-local : Local 2 comment_piece
comment_piece-local [] v w le = absurd (omega arith)
comment_piece-local (b ∷ u) v w le =
    local_if 1 (b == 47) line_comment (after_slash b) line_comment-local
    (local_if 1 (b == 42) long_comment (λ bs. token_of Bad 0) long_comment-local (λ x y z h. refl)) u v w (omega arith)

-- strings
closed_string-step : (o p : Option ℕ) (x y : List ℕ) (m : ℕ) → ((n : ℕ) → o ≡ Some n → n < m → p ≡ Some n)
    → m ≤ length x
    → ((n : ℕ) → n ≤ m → take n y ≡ take n x) → (closed_string o x).more + 2 ≤ m → closed_string p y ≡ closed_string o x
closed_string-step None p x y m h long front le = absurd (omega arith)
closed_string-step (Some n) p x y m h long front le =
    ap (λ q. closed_string q y) (h n refl (omega arith))
    ∙ ap (λ l. token_of (text_or_bad (unescaped l)) (suc n)) (front n (omega arith))

abbrev strings : List ℕ → Lexeme
strings bs = closed_string (quote_at bs) bs

strings-local : Local 2 strings
strings-local u v w le =
    let total : length (u ++ v) ≡ length u + length v = length-append u v in
    closed_string-step (quote_at (u ++ v)) (quote_at (u ++ w)) (u ++ v) (u ++ w) (length u)
    (λ n e below. quote-local u v w n e below) (omega arith) (λ n below. same_take n u v w below) le

signs-local : (b : ℕ) → Local 2 (sign_piece b)
signs-local b [] v w le = absurd (omega arith)
signs-local b (c ∷ u) v w le = refl

-- all of them, in the order of the tests
abbrev from_quote : ℕ → List ℕ → Lexeme
from_quote b bs = if (b == quote) then strings bs else sign_piece b bs

abbrev from_minus : ℕ → List ℕ → Lexeme
from_minus b bs = if (b == minus) then minus_piece bs else from_quote b bs

abbrev from_digit : ℕ → List ℕ → Lexeme
from_digit b bs = if (is_ascii_digit b) then numbers b bs else from_minus b bs

abbrev from_word : ℕ → List ℕ → Lexeme
from_word b bs = if (begins_word b) then words b bs else from_digit b bs

abbrev from_slash : ℕ → List ℕ → Lexeme
from_slash b bs = if (b == 47) then comment_piece bs else from_word b bs

pub piece-local : (b : ℕ) → Local 2 (piece_at b)
piece-local b =
    local_if 2 (is_blank b) (λ bs. white 0) (from_slash b) (λ u v w h. refl)
    (local_if 2 (b == 47) comment_piece (from_word b) comment_piece-local
    (local_if 2 (begins_word b) (words b) (from_digit b) (words-local b)
    (local_if 2 (is_ascii_digit b) (numbers b) (from_minus b) (numbers-local b)
    (local_if 2 (b == minus) minus_piece (from_quote b) minus-local
    (local_if 2 (b == quote) strings (sign_piece b) strings-local (signs-local b))))))

-- ---- tokens

-- the same place, if it is the first one
same_place : (p q : TokenPlace) → ◌≡◌ {A = Option TokenPlace} (Some p) (Some q) → p.end ≡ q.end
same_place p q e = let same : p ≡ q = cc in ap (λ (r : TokenPlace). r.end) same

-- a token ends after its first byte
end-step : (t : Option Token) (at k : ℕ) (q p : TokenPlace) (xs : List TokenPlace)
    → slice_get (and_place t q xs) k ≡ Some p → at < q.end
    → ((j : ℕ) → slice_get xs j ≡ Some p → at < p.end) → at < p.end
end-step None at k q p xs got lt h = h k got
end-step (Some t) at zero q p xs got lt h = let is = same_place q p got in omega arith
end-step (Some t) at (suc k) q p xs got lt h = h k got

end_after : (x : List ℕ) (n at k : ℕ) (p : TokenPlace) → slice_get (places_after at n x) k ≡ Some p → at + n < p.end
end_after [] n at k p got = let no : ◌≡◌ {A = Option TokenPlace} None (Some p) = got in absurd (cc)
end_after (b ∷ bs) (suc n) at k p got = let more : suc at + n < p.end = end_after bs n (suc at) k p got in omega arith
end_after (b ∷ bs) zero at k p got =
    let m = piece_at b bs in
    end-step m.token (at + 0) k (place_at at m.more) p (places_after (suc at) m.more bs) got (omega arith)
    (λ j g. let more : suc at + m.more < p.end = end_after bs m.more (suc at) j p g in omega arith)

-- the first k + 1 tokens of two texts are the same
abbrev Same : ℕ → List Token → List Token → Type 0
Same k x y = take (suc k) x ≡ take (suc k) y

same-step : (t : Option Token) (k : ℕ) (q p : TokenPlace) (xs : List TokenPlace) (x y : List Token)
    → slice_get (and_place t q xs) k ≡ Some p
    → ((j : ℕ) → slice_get xs j ≡ Some p → Same j x y) → Same k (and_token t x) (and_token t y)
same-step None k q p xs x y got h = h k got
same-step (Some t) zero q p xs x y got h = refl
same-step (Some t) (suc k) q p xs x y got h = ap (λ l. t ∷ l) (h k got)

local-step : (t : Option Token) (at n k : ℕ) (p : TokenPlace) (xs : List TokenPlace)
    → slice_get (and_place t (place_at at n) xs) k ≡ Some p
    → ((j : ℕ) → slice_get xs j ≡ Some p → suc at + n < p.end) → suc at + n ≤ p.end
local-step None at n k p xs got h = let more : suc at + n < p.end = h k got in omega arith
local-step (Some t) at n zero p xs got h = let is : at + 1 + n ≡ p.end = same_place (place_at at n) p got in omega arith
local-step (Some t) at n (suc k) p xs got h = let more : suc at + n < p.end = h k got in omega arith

same_from : (u v w : List ℕ) (n at k : ℕ) (p : TokenPlace) → slice_get (places_after at n (u ++ v)) k ≡ Some p
    → p.end + 2 ≤ at + length u
    → Same k (tokens_after n (u ++ w)) (tokens_after n (u ++ v))
same_from [] v w n at k p got le = let more = end_after v n at k p got in absurd (omega arith)
same_from (b ∷ u) v w (suc n) at k p got le = same_from u v w n (suc at) k p got (omega arith)
same_from (b ∷ u) v w zero at k p got le =
    let m = piece_at b (u ++ v) in
    let within : suc at + m.more ≤ p.end = local-step m.token at m.more k p (places_after (suc at) m.more (u ++ v)) got
    (λ j g. end_after (u ++ v) m.more (suc at) j p g) in
    let same : piece_at b (u ++ w) ≡ m = piece-local b u v w (omega arith) in
    subst (λ q. Same k
    (and_token q.token (tokens_after q.more (u ++ w))) (and_token m.token (tokens_after m.more (u ++ v)))) (sym same)
    (same-step m.token k (place_at at m.more) p
    (places_after (suc at) m.more (u ++ v)) (tokens_after m.more (u ++ w)) (tokens_after m.more (u ++ v)) got
    (λ j g. same_from u v w m.more (suc at) j p g (omega arith)))

-- texts that agree up to two bytes after a token have the same tokens up to that one
pub same_tokens : (u v w : List ℕ) (k : ℕ) (p : TokenPlace) → slice_get (places (u ++ v)) k ≡ Some p
    → p.end + 2 ≤ length u
    → Same k (tokens (u ++ w)) (tokens (u ++ v))
same_tokens u v w k p got le = same_from u v w 0 0 k p got (omega arith)
