use Rattle.std.proofs.Common.{◌≡◌, drop}
use Rattle.std.specs.List.{list_any}
use Rattle.strategy_check.specs.inside.Changing.{mentions_key}
use Rattle.strategy_check.proofs.changes.is_mentioned.Given as goal

-- none so far
abbrev pub invariant-loop-named : goal.invariant-loop-named
invariant-loop-named l =
    list_any (mentions_key l.key) (drop l.named-index l.modules) ≡ list_any (mentions_key l.key) l.modules
