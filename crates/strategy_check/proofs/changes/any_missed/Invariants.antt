use Rattle.std.proofs.Common.{◌≡◌, drop}
use Rattle.std.specs.List.{list_any}
use Rattle.strategy_check.specs.inside.Changing.{is_missed}
use Rattle.strategy_check.proofs.changes.any_missed.Given as goal

-- none so far
abbrev pub invariant-loop-key : goal.invariant-loop-key
invariant-loop-key l =
    list_any (is_missed l.table l.kept) (drop l.key-index l.keys) ≡ list_any (is_missed l.table l.kept) l.keys
