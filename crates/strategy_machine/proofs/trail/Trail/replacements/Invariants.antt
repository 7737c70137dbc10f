use Rattle.std.proofs.Common.{◌≡◌, take}
use Rattle.term_paths.specs.Edits.{prefixed}
use Rattle.term_changes.specs.Putting.{entries_at}
use Rattle.strategy_machine.proofs.trail.Trail.replacements.Given as goal

-- the entries of the first edits
abbrev pub invariant-loop-edit : goal.invariant-loop-edit
invariant-loop-edit l = l.plan ≡ entries_at l.slot (prefixed l.path (take l.edit-index l.edit-items))
