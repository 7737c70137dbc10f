use Rattle.std.proofs.Common.{◌≡◌, drop}
use Rattle.std.specs.List.{list_any}
use Rattle.strategy_check.specs.inside.Changing.{is_clash}
use Rattle.strategy_check.proofs.changes.has_clash.Given as goal

-- none so far
abbrev pub invariant-loop-named : goal.invariant-loop-named
invariant-loop-named l = list_any (λ m. list_any (is_clash l.after) m.1.constructors) (drop l.named-index l.new)
    ≡ list_any (λ m. list_any (is_clash l.after) m.1.constructors) l.new
