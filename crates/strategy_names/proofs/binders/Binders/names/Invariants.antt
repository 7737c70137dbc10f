use Rattle.std.proofs.Common.{◌≡◌, ◌++◌, drop, map}
use Rattle.strategy_names.proofs.binders.Binders.names.Given as goal

-- the names so far, followed by those of the rest, are those of all
abbrev pub invariant-loop-entry : goal.invariant-loop-entry
invariant-loop-entry l = l.names.items ++ map (λ e. e.name) (drop l.entry-index l.entries) ≡ map (λ e. e.name) l.entries
