-- What names stand for, and calls that open nothing.
use Rattle.std.specs.Prelude.{◌≡◌, ◌<◌, ℕ, List, length}
use Rattle.term_core.specs.Tree.{Tree}
use Rattle.strategy_syntax.specs.Resolved.{ResolvedStrategy}
use Rattle.strategy_meaning.specs.Scopes.{Scope}
use Rattle.strategy_meaning.specs.Matching.{Bindings}
use Rattle.strategy_meaning.specs.Answer.{stopped, spent}
use Rattle.strategy_meaning.specs.Meaning.{World, run, form}
use Rattle.strategy_machine.specs.Table.{scope_at}

-- The form r in scope n runs strategy s in scope k.
pub record Runs (W : World) (es : List Scope) (r : ResolvedStrategy) (n : ℕ) (s : ResolvedStrategy)
    (k : ℕ) : Type 0 where
  pub there : k < length es
  pub is : (l c : ℕ) (B : Bindings) (t : Tree)
      → form W (run W) (scope_at es n) l r c B t ≡ run W (scope_at es k) l s c B t

-- With b steps, r in scope n comes to the form s in scope k, with c steps left after its own.
pub record ComesTo (W : World) (es : List Scope) (r : ResolvedStrategy) (n b : ℕ) (s : ResolvedStrategy)
    (k c : ℕ) : Type 0 where
  pub there : k < length es
  pub left : c < b
  pub is : (l : ℕ) (B : Bindings) (t : Tree)
      → run W (scope_at es n) l r b B t ≡ form W (run W) (scope_at es k) l s c B t

-- b steps don't suffice for r in scope n
abbrev pub IsSpent : World → List Scope → ResolvedStrategy → ℕ → ℕ → Type 0
IsSpent W es r n b = (l : ℕ) (B : Bindings) (t : Tree) → run W (scope_at es n) l r b B t ≡ stopped spent
