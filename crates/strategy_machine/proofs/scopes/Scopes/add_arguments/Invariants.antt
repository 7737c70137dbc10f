use Rattle.strategy_machine.specs.Table.{scopes}
use Rattle.strategy_machine.proofs.TableArguments.{Added}
use Rattle.strategy_machine.proofs.scopes.Scopes.add_arguments.Given as goal

abbrev pub invariant-each : goal.invariant-each
invariant-each l = Added (scopes l.initial.self) (scopes l.self) l.scope l.strategies l.strategy-index l.names
