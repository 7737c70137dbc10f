use Rattle.std.proofs.Common.{◌≡◌, ◌+◌, map, drop}
use Rattle.strategy_check.specs.Programs.{variable_count}
use Rattle.strategy_check.proofs.groups.count_variables.Given as goal

-- those counted, plus those of the rest, are all
abbrev pub invariant-loop-definition : goal.invariant-loop-definition
invariant-loop-definition l = l.count + variable_count (map (λ d. d.now) (drop l.definition-index l.definition-items))
    ≡ variable_count (map (λ d. d.now) l.definition-items)
