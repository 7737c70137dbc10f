use Rattle.std.proofs.Common.{take}
use Rattle.strategy_machine.proofs.ArgumentLemmas.{Opened}
use Rattle.strategy_machine.proofs.arguments.open_arguments.Given as goal

abbrev pub invariant-each : goal.invariant-each
invariant-each l = Opened l.initial.cells l.cells (take l.i l.arguments)
