use Rattle.std.proofs.Common.{◌≡◌, drop}
use Rattle.strategy_names.proofs.binders.Binders.close_all.Given as goal

abbrev pub invariant-loop : goal.invariant-loop
invariant-loop l = l.self ≡ drop l.counter l.fn.self
