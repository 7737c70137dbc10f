-- Applying a strategy to the subterm at a path of a tree.
use Rattle.std.specs.Prelude.{ℕ, List, length, ⊤}
use Rattle.std.specs.Option.{option_map_or}
use Rattle.term_core.specs.Tree.{Tree}
use Rattle.term_paths.specs.Paths.{at, set_at}
use Rattle.term_paths.specs.Edits.{Edits, prefixed}
use Rattle.strategy_syntax.specs.declared.resolved.Resolved.{Resolved}
use Rattle.strategy_meaning.specs.Answer.{Stop, Answer, done, failed, stopped}
use Rattle.strategy_meaning.specs.Meaning.{World, run_whole}

-- The new tree, with the edits that lead to it; or failure, or a stop, without a tree.
pub data Outcome : Type 0 where
  gives : Tree → Edits → Outcome
  fails : Outcome
  stops : Stop → Outcome

-- what holds of the new tree
abbrev pub IfGiven : Outcome → (Tree → Edits → Type 0) → Type 0
IfGiven (gives u e) P = P u e
IfGiven fails P = ⊤
IfGiven (stops why) P = ⊤

-- the tree with the resulting term at the path
abbrev pub placed : Tree → List ℕ → Answer → Outcome
placed t p (done u B b e) = gives (set_at t p u) (prefixed p e)
placed t p (failed b) = fails
placed t p (stopped why) = stops why

-- With b steps, at the level that is the path's length; it fails if the path leads to no subterm.
abbrev pub applied : World → List ℕ → Resolved → ℕ → Tree → Outcome
applied W p r b t = option_map_or (λ u. placed t p (run_whole W (length p) r b u)) (at t p) fails
