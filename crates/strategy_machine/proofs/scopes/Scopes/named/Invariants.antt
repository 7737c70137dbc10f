use Rattle.std.proofs.Common.{◌≡◌}
use Rattle.strategy_meaning.specs.Scopes.{stands_for}
use Rattle.strategy_machine.specs.Table.{scopes, scope_at}
use Rattle.strategy_machine.proofs.scopes.Scopes.named.Given as goal

-- the name stands for the same in the scope reached so far
abbrev pub invariant-outwards : goal.invariant-outwards
invariant-outwards l =
    stands_for (scope_at (scopes l.self) l.scope) l.x ≡ stands_for (scope_at (scopes l.self) l.at) l.x

abbrev pub decreases-outwards : goal.decreases-outwards
decreases-outwards l = l.at
