use Rattle.std.proofs.Common.{◌≡◌, ◌+◌, drop}
use Rattle.strategy_names.specs.Binders.{bound_from}
use Rattle.strategy_names.proofs.binders.Binders.open_all.Given as goal

-- the rest gives what the whole gave
abbrev pub invariant-loop-name : goal.invariant-loop-name
invariant-loop-name l =
    (bound_from l.number (drop l.name-index l.names) l.self ≡ bound_from l.fn.first l.names l.fn.self)
    × (l.number ≡ l.fn.first + l.name-index)
