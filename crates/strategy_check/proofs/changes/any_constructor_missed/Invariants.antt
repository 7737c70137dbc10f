use Rattle.std.proofs.Common.{◌≡◌, drop}
use Rattle.std.specs.List.{list_any}
use Rattle.strategy_check.specs.inside.Changing.{is_missed_constructor}
use Rattle.strategy_check.proofs.changes.any_constructor_missed.Given as goal

-- none so far
abbrev pub invariant-loop-constructor : goal.invariant-loop-constructor
invariant-loop-constructor l = list_any (is_missed_constructor l.table l.kept) (drop l.constructor-index l.constructors)
    ≡ list_any (is_missed_constructor l.table l.kept) l.constructors
