use Rattle.std.proofs.Common.{◌≡◌, ◌++◌, map, drop}
use Rattle.strategy_check.specs.Programs.{resolved_bodies}
use Rattle.strategy_check.proofs.groups.resolve_bodies.Given as goal

-- those resolved, followed by those of the rest, are all
abbrev pub invariant-loop-definition : goal.invariant-loop-definition
invariant-loop-definition g l =
    l.bodies.items ++ resolved_bodies l.table l.primitives l.next l.count
    (map (λ d. d.now) (drop l.definition-index l.definition-items))
    ≡ resolved_bodies l.table l.primitives l.fn.first l.count (map (λ d. d.now) l.definition-items)
