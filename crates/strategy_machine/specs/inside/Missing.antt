-- Failures that the root of a term shows, whatever the variables are bound to.
use Rattle.std.specs.Prelude.{◌≡◌, ℕ, List, slice_get, None, Some, ⊤}
use Rattle.std.specs.declared.option.Option.{Option}
use Rattle.term_core.specs.Tree.{Tree, children}
use Rattle.strategy_syntax.specs.Resolved.{ResolvedPattern, ResolvedStrategy}
use Rattle.strategy_syntax.specs.Apart.{tree_class, AreApart}
use Rattle.strategy_syntax.specs.declared.resolved.Resolved.{Resolved}
use Rattle.strategy_meaning.specs.Scopes.{Scope, stands_for}
use Rattle.strategy_meaning.specs.Matching.{Bindings, match_pattern}
use Rattle.strategy_meaning.specs.Answer.{failed}
use Rattle.strategy_meaning.specs.Meaning.{World, run}
use Rattle.term_match.specs.Heads.{SharesHead}
use Rattle.strategy_machine.specs.Table.{scope_at}
use Rattle.strategy_machine.specs.declared.heads.RootMatch.{RootMatch}
use Rattle.strategy_machine.specs.declared.heads.RootMatch.TheVariants as glances

-- the pattern doesn't match the term, whatever the variables are bound to
pub record Misses (p : ResolvedPattern) (t : Tree) : Type 0 where
  pub never : (E : List ℕ) (B : Bindings) → match_pattern p t E B ≡ None

-- what a glance shows of a match, whatever the variables are bound to
abbrev pub Shows : RootMatch → ResolvedPattern → Tree → Type 0
Shows glances.Misses p t = Misses p t
Shows glances.Matches p t = (E : List ℕ) (B : Bindings) → match_pattern p t E B ≡ Some B
Shows glances.Open p t = SharesHead p t

-- the strategy names of the scope are those of scope n, if n is known
abbrev pub HasNames : List Scope → Option ℕ → Scope → Type 0
HasNames known None E = ⊤
HasNames known (Some n) E = (x : ℕ) → stands_for E x ≡ stands_for (scope_at known n) x

-- With b steps the strategy fails on the term and leaves c, at each level, with all bindings and in
-- each scope with these names.
pub record FailsAhead (ds : List Resolved) (known : List Scope) (n : Option ℕ) (s : ResolvedStrategy) (b : ℕ) (t : Tree)
    (c : ℕ) : Type 0 where
  pub fails : (W : World) → W.bodies ≡ ds → (E : Scope) → HasNames known n E → (l : ℕ) (B : Bindings)
      → run W E l s b B t ≡ failed c

-- With b steps s has the answer on the term that r has with c steps, wherever it is run.
pub record Passes (s : ResolvedStrategy) (b : ℕ) (t : Tree) (r : ResolvedStrategy) (c : ℕ) : Type 0 where
  pub same : (W : World) (E : Scope) (l : ℕ) (B : Bindings) → run W E l s b B t ≡ run W E l r c B t

-- the classes of the term's root, and of its child at an index, if one is given
abbrev pub Suits : Tree → ℕ → Option (ℕ × ℕ) → Type 0
Suits t r None = tree_class t ≡ r
Suits t r (Some (i, c)) = (tree_class t ≡ r) × (u : Tree) × (slice_get (children t) i ≡ Some u) × (tree_class u ≡ c)

-- the first n alternatives are rules, or like them, that classes of the term rule out
pub record SkipsOver (n : ℕ) (s : ResolvedStrategy) (t : Tree) : Type 0 where
  pub root : ℕ
  pub child : Option (ℕ × ℕ)
  pub suits : Suits t root child
  pub apart : AreApart n s root child
