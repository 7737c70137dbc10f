use Rattle.std.specs.Prelude.{◌≡◌, ◌<◌, ◌≤◌, ℕ, length}
use Rattle.term_core.specs.Tree.{Tree}
use Rattle.strategy_meaning.specs.Matching.{Bindings}
use Rattle.strategy_meaning.specs.Meaning.{run}
use Rattle.strategy_machine.specs.Table.{scopes, scope_at}
use Rattle.strategy_machine.specs.Turns.{world_of}
use Rattle.strategy_machine.proofs.names.start_of.Given as goal

-- the strategy reached so far, in its scope and with the steps left, has the same answer
abbrev pub invariant-through : goal.invariant-through
invariant-through g l =
    let W = world_of g.M.Meaning.meaning l.host.definitions.now l.host.primitives.now l.host.room in
    (l.scope < length (scopes l.scopes)) × (l.left ≤ l.steps)
    × ((k : ℕ) (B : Bindings) (t : Tree) → run W (scope_at (scopes l.scopes) l.fn.scope) k l.fn.strategy l.steps B t
    ≡ run W (scope_at (scopes l.scopes) l.scope) k l.strategy l.left B t)

abbrev pub decreases-through : goal.decreases-through
decreases-through g l = l.left
