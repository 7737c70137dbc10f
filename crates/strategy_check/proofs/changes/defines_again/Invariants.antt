use Rattle.std.proofs.Common.{◌≡◌, drop}
use Rattle.std.specs.List.{list_any}
use Rattle.strategy_check.specs.inside.Changing.{own_table, is_again}
use Rattle.strategy_check.proofs.changes.defines_again.Given as goal

-- none so far
abbrev pub invariant-loop-named : goal.invariant-loop-named
invariant-loop-named l = list_any (λ m. list_any (is_again l.before l.old) (own_table m).definitions)
    (drop l.named-index l.new) ≡ list_any (λ m. list_any (is_again l.before l.old) (own_table m).definitions) l.new
