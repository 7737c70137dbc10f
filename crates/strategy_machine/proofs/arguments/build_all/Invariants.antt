use Rattle.strategy_machine.proofs.ArgumentLemmas.{BuiltSoFar}
use Rattle.strategy_meaning.specs.Scopes.{cells_in}
use Rattle.strategy_machine.specs.Table.{scopes, scope_at}
use Rattle.strategy_machine.proofs.arguments.build_all.Given as goal

abbrev pub invariant-each : goal.invariant-each
invariant-each l = BuiltSoFar l.room l.initial.cells l.cells l.patterns (cells_in (scope_at (scopes l.scopes) l.scope))
    l.level l.i l.arguments.items
