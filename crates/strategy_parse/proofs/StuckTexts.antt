-- Where a text is stuck, no text that begins as it does gives a strategy.
use Rattle.std.proofs.Common.{◌≡◌, ℕ, suc, ◌+◌, ◌≤◌, List, ◌++◌, length, take, drop, Some, sym, ap, ◌∙◌, subst, arith, add-one}
use Rattle.std.specs.List.{slice_get}
use Rattle.std.proofs.lemmas.List.{take-append-drop, length-take-le}
use Rattle.strategy_tokens.specs.declared.place.TokenPlace.{TokenPlace}
use Rattle.strategy_tokens.specs.Tokens.{tokens}
use Rattle.strategy_tokens.specs.Places.{places}
use Rattle.strategy_tokens.proofs.LocalLemmas.{same_tokens}
use Rattle.strategy_parse.specs.Gives.{GivesStrategy}
use Rattle.strategy_parse.specs.Stuck.{BeginNone, BytesBeginNone}

pub bytes-begin-none : (x : List ℕ) (k : ℕ) (p : TokenPlace) → slice_get (places x) k ≡ Some p
    → BeginNone (take (k + 1) (tokens x)) → p.end + 2 ≤ length x → BytesBeginNone (take (p.end + 2) x)
bytes-begin-none x k p got none le = λ more r gives.
    let u : List ℕ = take (p.end + 2) x in
    let v : List ℕ = drop (p.end + 2) x in
    let whole : u ++ v ≡ x = take-append-drop (p.end + 2) x in
    let size : length u ≡ p.end + 2 = length-take-le (p.end + 2) x le in
    let there : slice_get (places (u ++ v)) k ≡ Some p = ap (λ l. slice_get (places l) k) whole ∙ got in
    let same : take (suc k) (tokens (u ++ more)) ≡ take (suc k) (tokens (u ++ v)) =
    same_tokens u v more k p there (omega arith) in
    let front : take (k + 1) (tokens (u ++ more)) ≡ take (k + 1) (tokens x) =
    rw add-one (same ∙ ap (λ l. take (suc k) (tokens l)) whole) in
    let split : tokens (u ++ more) ≡ take (k + 1) (tokens x) ++ drop (k + 1) (tokens (u ++ more)) =
    sym (take-append-drop (k + 1) (tokens (u ++ more))) ∙ ap (λ l. l ++ drop (k + 1) (tokens (u ++ more))) front in
    none (drop (k + 1) (tokens (u ++ more))) r (subst (λ l. GivesStrategy l r) split gives)
