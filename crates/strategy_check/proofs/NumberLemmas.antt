-- Numbers of definitions that stay.
use Rattle.std.proofs.Common.{◌≡◌, ℕ, zero, suc, ◌+◌, ◌<◌, ◌≤◌, ◌⊎◌, inl, inr, get_or, subst, List, [], ◌∷◌, length, map, slice_get, refl, arith}
use Rattle.std.specs.Prelude.{unwrap_or}
use Rattle.std.proofs.lemmas.Bool.{cases_lt}
use Rattle.strategy_syntax.specs.Resolved.{ResolvedStrategy, id, fail, matches, builds, seq, guard, test, scope, param, call, congruence, tail_congruence, all, one, some, child, rec, prim, ResolvedStrategies, no_strategies, and_strategy}
use Rattle.strategy_syntax.specs.Renumbering.{new_number, renumbered, all_renumbered}
use Rattle.strategy_syntax.specs.declared.resolved.Resolved.{Resolved}
use Rattle.strategy_check.specs.inside.Replacing.{renumbered_definition}

module _ (numbers : List ℕ) (stay : (k : ℕ) → new_number numbers k ≡ k) where
  mutual
    same-strategy : (s : ResolvedStrategy) → renumbered numbers s ≡ s
    same-strategy id = refl
    same-strategy fail = refl
    same-strategy (matches p) = refl
    same-strategy (builds p) = refl
    same-strategy (seq r s) = λ i. seq (same-strategy r i) (same-strategy s i)
    same-strategy (guard q r s) = λ i. guard (same-strategy q i) (same-strategy r i) (same-strategy s i)
    same-strategy (test s) = λ i. test (same-strategy s i)
    same-strategy (scope n s) = λ i. scope n (same-strategy s i)
    same-strategy (param x) = refl
    same-strategy (call k ss ps) = λ i. call (stay k i) (same-strategies ss i) ps
    same-strategy (congruence h ss) = λ i. congruence h (same-strategies ss i)
    same-strategy (tail_congruence ss s) = λ i. tail_congruence (same-strategies ss i) (same-strategy s i)
    same-strategy (all s) = λ i. all (same-strategy s i)
    same-strategy (one s) = λ i. one (same-strategy s i)
    same-strategy (some s) = λ i. some (same-strategy s i)
    same-strategy (child n s) = λ i. child n (same-strategy s i)
    same-strategy (rec s) = λ i. rec (same-strategy s i)
    same-strategy (prim n ps) = refl

    same-strategies : (ss : ResolvedStrategies) → all_renumbered numbers ss ≡ ss
    same-strategies no_strategies = refl
    same-strategies (and_strategy s ss) = λ i. and_strategy (same-strategy s i) (same-strategies ss i)

  pub same-definitions : (rs : List Resolved) → map (renumbered_definition numbers) rs ≡ rs
  same-definitions [] = refl
  same-definitions (r ∷ rs) = λ i. record r { strategy = same-strategy r.strategy i } ∷ same-definitions rs i

-- a number at its own index stays, and so does one that no list has
stays_at : (numbers : List ℕ) (k n : ℕ)
    → (k < length numbers → get_or numbers k 0 ≡ n) → unwrap_or (slice_get numbers k) n ≡ n
stays_at [] k n h = refl
stays_at (m ∷ ms) zero n h = h (omega arith)
stays_at (m ∷ ms) (suc k) n h = stays_at ms k n (λ (lt : k < length ms). h (omega (arith, lt)))

pub all_stay : (numbers : List ℕ) (i : ℕ) → length numbers ≤ i → ((k : ℕ) → k < i → get_or numbers k 0 ≡ k) → (k : ℕ)
    → new_number numbers k ≡ k
all_stay numbers i ended stay k = stays_at numbers k k (λ (lt : k < length numbers). stay k (omega (arith, lt, ended)))

pub one_more : (numbers : List ℕ) (i : ℕ)
    → ((k : ℕ) → k < i → get_or numbers k 0 ≡ k) → get_or numbers i 0 ≡ i → (k : ℕ) → k < i + 1 → get_or numbers k 0 ≡ k
one_more numbers i stay next k lt = by (cases_lt k i)
  where
    by : (k < i) ⊎ (i ≤ k) → get_or numbers k 0 ≡ k
    by (inl below) = stay k below
    by (inr above) = let same : i ≡ k = omega (arith, above, lt) in subst (λ k. get_or numbers k 0 ≡ k) same next
