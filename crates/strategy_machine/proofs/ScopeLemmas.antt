-- One more scope.
use Rattle.std.proofs.Common.{◌≡◌, ◌<◌, ℕ, List, [], ◌∷◌, ◌++◌, length, take, ap, ◌∙◌, arith}
use Rattle.std.proofs.lemmas.List.{length-append}
use Rattle.std.proofs.Math.Seq.{get_or-append_seam, take-append_seam}
use Rattle.strategy_meaning.specs.Scopes.{Scope}
use Rattle.strategy_machine.specs.Table.{nowhere, scope_at, Starts}

pub one_more_there : (old new : List Scope) (E : Scope) {n : ℕ} → n ≡ length old → new ≡ old ++ E ∷ [] → n < length new
one_more_there old new E e is = omega (arith, e, ap (λ (l : List Scope). length l) is, length-append old (E ∷ []))

pub one_more_is : (old new : List Scope) (E : Scope) {n : ℕ} → n ≡ length old → new ≡ old ++ E ∷ [] → scope_at new n ≡ E
one_more_is old new E e is = (λ i. scope_at (is i) (e i)) ∙ get_or-append_seam old E [] nowhere

pub one_more_starts : (old new : List Scope) (E : Scope) → new ≡ old ++ E ∷ [] → Starts old new
one_more_starts old new E is = ap (take (length old)) is ∙ take-append_seam old (E ∷ [])
