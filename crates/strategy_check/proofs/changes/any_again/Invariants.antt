use Rattle.std.proofs.Common.{◌≡◌, drop}
use Rattle.std.specs.List.{list_any}
use Rattle.strategy_check.specs.inside.Changing.{is_again}
use Rattle.strategy_check.proofs.changes.any_again.Given as goal

-- none so far
abbrev pub invariant-loop-key : goal.invariant-loop-key
invariant-loop-key l =
    list_any (is_again l.before l.old) (drop l.key-index l.keys) ≡ list_any (is_again l.before l.old) l.keys
