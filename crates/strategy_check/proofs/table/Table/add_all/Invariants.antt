use Rattle.std.proofs.Common.{◌≡◌, drop}
use Rattle.strategy_check.specs.inside.Changing.{with_all}
use Rattle.strategy_check.proofs.table.Table.add_all.Given as goal

-- the rest gives what the whole gave
abbrev pub invariant-loop-named : goal.invariant-loop-named
invariant-loop-named l = with_all l.self (drop l.named-index l.modules) ≡ with_all l.fn.self l.modules
