-- Strategies that are rules, or call one.
use Rattle.std.specs.Prelude.{◌≡◌, ◌<◌, ℕ, ◌+◌, List, ◌++◌, length, replicate, None}
use Rattle.term_core.specs.Tree.{Tree}
use Rattle.strategy_syntax.specs.Resolved.{ResolvedStrategy, matches, builds, seq}
use Rattle.strategy_syntax.specs.declared.resolved.Resolved.{Resolved}
use Rattle.strategy_meaning.specs.Scopes.{Scope, with_variables}
use Rattle.strategy_meaning.specs.Matching.{Bindings}
use Rattle.strategy_meaning.specs.Answer.{stopped, spent}
use Rattle.strategy_meaning.specs.Meaning.{World, run, cut}
use Rattle.strategy_machine.specs.Table.{scope_at, scope_from, IsThere}
use Rattle.strategy_machine.specs.declared.choices.Rule.{Rule}

-- In scope n, s is the rule: with fewer steps than its price it is spent; else it is the rule's match
-- and build over new cells, and two steps of the price are those of the sequence and the match.
pub record IsRule (ds : List Resolved) (es : List Scope) (s : ResolvedStrategy) (n : ℕ) (r : Rule) : Type 0 where
  pub there : n < length es → IsThere (length es) r.outer
  pub spent : (W : World) → W.bodies ≡ ds → (l b : ℕ) (B : Bindings) (t : Tree)
      → b < r.price → run W (scope_at es n) l s b B t ≡ stopped spent
  pub is : (W : World) → W.bodies ≡ ds → (l b c : ℕ) (B : Bindings) (t : Tree)
      → b + 2 ≡ c + r.price → run W (scope_at es n) l s b B t
      ≡ cut (length B) (run W (with_variables (scope_from es r.outer) (length B) r.count) l
      (seq (matches r.left.now) (builds r.right.now)) c (B ++ replicate r.count None) t)
