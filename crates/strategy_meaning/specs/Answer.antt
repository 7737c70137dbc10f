-- The answers of strategies, and how they are combined.
use Rattle.std.specs.Prelude.{ℕ, [], ◌∷◌, ◌++◌, ⊤}
use Rattle.term_core.specs.Tree.{Tree}
use Rattle.term_paths.specs.Edits.{Edits}
use Rattle.strategy_meaning.specs.Matching.{Bindings}

-- why a run stops: no step is left, or a term doesn't fit
pub data Stop : Type 0 where
  spent : Stop
  big : Stop

-- A strategy succeeds with a term, the bindings, the steps left, and the subterms that were
-- replaced on the way; or it fails, with the steps left; or the whole run stops.
pub data Answer : Type 0 where
  done : Tree → Bindings → ℕ → Edits → Answer
  failed : ℕ → Answer
  stopped : Stop → Answer

-- from a number of steps, bindings and a term to an answer
abbrev pub Act : Type 0
Act = ℕ → Bindings → Tree → Answer

-- what holds of a success: of its term, bindings, steps and edits
abbrev pub IfDone : Answer → (Tree → Bindings → ℕ → Edits → Type 0) → Type 0
IfDone (done t B b e) P = P t B b e
IfDone (failed b) P = ⊤
IfDone (stopped why) P = ⊤

-- continues in one way after a success, and in another after a failure
abbrev pub either : Answer → (Tree → Bindings → ℕ → Edits → Answer) → (ℕ → Answer) → Answer
either (done t B b e) go back = go t B b e
either (failed b) go back = back b
either (stopped why) go back = stopped why

-- continues after a success
abbrev pub if_done : Answer → (Tree → Bindings → ℕ → Edits → Answer) → Answer
if_done a go = either a go failed

-- these edits before those of the answer
abbrev pub with_edits : Edits → Answer → Answer
with_edits first a = if_done a (λ t B b e. done t B b (first ++ e))

-- one part after the other, with the edits of both
abbrev pub and_then : Answer → Act → Answer
and_then a act = if_done a (λ t B b e. with_edits e (act b B t))

-- the whole term is replaced
abbrev pub at_root : Tree → Edits
at_root u = record { path = []; new = u } ∷ []
