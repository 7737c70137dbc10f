-- The bytes up to the first quote or backslash, as a search finds them.
use Rattle.std.proofs.Common.{◌≡◌, ◌<◌, ℕ, Bool, true, false, not, ◌&&◌, ◌||◌, ◌==◌, List, length, get_or, refl, ap, ◌∙◌, arith}
use Rattle.std.specs.List.{prefix_len}
use Rattle.std.proofs.lemmas.List.Sums.{prefix_len_is}
use Rattle.memchr.specs.Find.{Nowhere, NoneBefore, Passes, is_byte2}
use Rattle.aterm_text.specs.Signs.{quote, backslash}
use Rattle.aterm_text.specs.inside.Runs.{is_plain}

plain-not : (b : ℕ) → is_plain b ≡ not (is_byte2 quote backslash b)
plain-not b = at (b == quote) (b == backslash)
  where
    at : (p q : Bool) → (not p && not q) ≡ not (p || q)
    at true q = refl
    at false q = refl

plain_unless : (b : ℕ) → ¬ (is_byte2 quote backslash b ≡ true) → is_plain b ≡ true
plain_unless b other = plain-not b ∙ at (is_byte2 quote backslash b) other
  where
    at : (t : Bool) → ¬ (t ≡ true) → not t ≡ true
    at true other = absurd (other refl)
    at false other = refl

pub found_run : (x : List ℕ) (k : ℕ) → NoneBefore (Passes (is_byte2 quote backslash) x) 0 (length x) k
    × Passes (is_byte2 quote backslash) x k → prefix_len is_plain x ≡ k
found_run x k h =
    let high : k < length x = h.0.high in
    prefix_len_is is_plain x k 0 (omega arith)
    (λ i below. plain_unless (get_or x i 0) (h.0.before i (omega arith) below))
    (λ _. plain-not (get_or x k 0) ∙ ap not h.1)

pub whole_run : (x : List ℕ) → Nowhere (Passes (is_byte2 quote backslash) x) 0 (length x)
    → prefix_len is_plain x ≡ length x
whole_run x none =
    prefix_len_is is_plain x (length x) 0 (omega arith)
    (λ i below. plain_unless (get_or x i 0) (none i (omega arith) below)) (λ h. absurd (omega (arith, h)))
