use Rattle.std.proofs.Common.{take}
use Rattle.strategy_machine.specs.inside.Entries.{AreNames}
use Rattle.strategy_machine.proofs.scopes.are_names.Given as goal

abbrev pub invariant-each : goal.invariant-each
invariant-each l = AreNames 0 (take l.i l.strategies)
