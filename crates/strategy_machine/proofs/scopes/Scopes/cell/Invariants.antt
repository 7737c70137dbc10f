use Rattle.std.proofs.Common.{◌≡◌, slice_get}
use Rattle.strategy_meaning.specs.Scopes.{cells_in}
use Rattle.strategy_machine.specs.Table.{scopes, scope_at}
use Rattle.strategy_machine.proofs.scopes.Scopes.cell.Given as goal

-- it is the cell of that variable in the scope reached so far
abbrev pub invariant-outwards : goal.invariant-outwards
invariant-outwards l =
    slice_get (cells_in (scope_at (scopes l.self) l.scope)) l.variable
    ≡ slice_get (cells_in (scope_at (scopes l.self) l.at)) l.variable

abbrev pub decreases-outwards : goal.decreases-outwards
decreases-outwards l = l.at
