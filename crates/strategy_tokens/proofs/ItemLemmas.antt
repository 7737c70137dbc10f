-- A text whose items are too long has more tokens than any item may have.
use Rattle.std.proofs.Common.{◌≡◌, ℕ, suc, ◌+◌, ◌≤◌, ◌<◌, nat_le, List, [], ◌∷◌, length, refl, sym, ◌∙◌, arith, Bool, true, false}
use Rattle.std.proofs.lemmas.Bool.{true≢false}
use Rattle.std.proofs.lemmas.Bool.Decides.{nat_tests}
use Rattle.strategy_tokens.specs.declared.TheConstants.{MAX_TOKENS}
use Rattle.strategy_tokens.specs.declared.token.Token.{Token}
use Rattle.strategy_tokens.specs.Items.{runs_fit, items_fit, begins_item, may_end, module_tokens}

-- a row that is too long stays so
long_run-at : (n : ℕ) (e : Bool) (t : Token) (ts : List Token) (starts : Bool)
    → begins_item e t ≡ starts → MAX_TOKENS < n
    → ((m : ℕ) → MAX_TOKENS < m → runs_fit m (may_end t) ts ≡ false) → runs_fit n e (t ∷ ts) ≡ false
long_run-at n e t ts true s h more = let long : nat_le n MAX_TOKENS ≡ false = grind (arith, nat_tests) in
    rw s (rw long refl)
long_run-at n e t ts false s h more = rw s (more (suc n) (omega arith))

pub long_run : (n : ℕ) (e : Bool) (ts : List Token) → MAX_TOKENS < n → runs_fit n e ts ≡ false
long_run n e [] h = grind (arith, nat_tests)
long_run n e (t ∷ ts) h = long_run-at n e t ts (begins_item e t) refl h (λ m. long_run m (may_end t) ts)

-- with no more tokens than that altogether there is nowhere a longer row
short_runs-at : (n : ℕ) (e : Bool) (t : Token) (ts : List Token) (starts : Bool)
    → begins_item e t ≡ starts → n + suc (length ts) ≤ MAX_TOKENS
    → ((m : ℕ) → m + length ts ≤ MAX_TOKENS → runs_fit m (may_end t) ts ≡ true) → runs_fit n e (t ∷ ts) ≡ true
short_runs-at n e t ts true s h more =
    let fits : nat_le n MAX_TOKENS ≡ true = grind (arith, nat_tests) in
    rw s (rw fits (more 1 (omega arith)))
short_runs-at n e t ts false s h more = rw s (more (suc n) (omega arith))

short_runs : (n : ℕ) (e : Bool) (ts : List Token) → n + length ts ≤ MAX_TOKENS → runs_fit n e ts ≡ true
short_runs n e [] h = grind (arith, nat_tests)
short_runs n e (t ∷ ts) h = short_runs-at n e t ts (begins_item e t) refl h (λ m. short_runs m (may_end t) ts)

pub short_texts : (ts : List Token) → length ts ≤ MAX_TOKENS → items_fit ts ≡ true
short_texts ts h = short_runs 0 false ts (omega arith)

unfit-at : (ts : List Token) → items_fit ts ≡ false → (fits : Bool)
    → nat_le (length ts) MAX_TOKENS ≡ fits → MAX_TOKENS < length ts
unfit-at ts h true e = absurd (true≢false (sym (short_texts ts (grind (arith, nat_tests))) ∙ h))
unfit-at ts h false e = grind (arith, nat_tests)

pub unfit_texts : (ts : List Token) → items_fit ts ≡ false → MAX_TOKENS < length ts
unfit_texts ts h = unfit-at ts h (nat_le (length ts) MAX_TOKENS) refl

-- such a text is refused, however many tokens are asked for
pub unfit_is_deep : {A : Type 0} {x : A} (most : ℕ) (ts : List Token) → items_fit ts ≡ false
    → (x ≡ x → module_tokens most ts < length ts) × (module_tokens most ts < length ts → x ≡ x)
unfit_is_deep most ts h = (λ e. rw h (unfit_texts ts h), λ l. refl)
