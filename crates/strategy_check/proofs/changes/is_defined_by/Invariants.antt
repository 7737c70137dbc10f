use Rattle.std.proofs.Common.{◌≡◌, drop}
use Rattle.std.specs.List.{list_any}
use Rattle.strategy_check.specs.inside.Changing.{defines_key}
use Rattle.strategy_check.proofs.changes.is_defined_by.Given as goal

-- none so far
abbrev pub invariant-loop-named : goal.invariant-loop-named
invariant-loop-named l =
    list_any (defines_key l.key) (drop l.named-index l.modules) ≡ list_any (defines_key l.key) l.modules
