use Rattle.std.proofs.Common.{◌≡◌, ◌+◌, drop}
use Rattle.strategy_check.specs.inside.Staying.{own_count}
use Rattle.strategy_check.proofs.checked.count_definitions.Given as goal

-- the count so far and that of the rest
abbrev pub invariant-loop-named : goal.invariant-loop-named
invariant-loop-named l = l.count + own_count (drop l.named-index l.modules) ≡ own_count l.modules
