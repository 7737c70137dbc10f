use Rattle.std.proofs.Common.{◌≡◌, drop}
use Rattle.std.specs.List.{list_any}
use Rattle.strategy_check.specs.inside.Changing.{own_table, is_missed}
use Rattle.strategy_check.proofs.changes.misses_definition.Given as goal

-- none so far
abbrev pub invariant-loop-named : goal.invariant-loop-named
invariant-loop-named l = list_any (λ m. list_any (is_missed l.table l.kept) (own_table m).definitions)
    (drop l.named-index l.of) ≡ list_any (λ m. list_any (is_missed l.table l.kept) (own_table m).definitions) l.of
