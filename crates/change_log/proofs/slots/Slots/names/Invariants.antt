use Rattle.std.proofs.Common.{◌≡◌, ◌++◌}
use Rattle.std.specs.Map.{keys_of}
use Rattle.term_changes.specs.Slots.{filled}
use Rattle.change_log.proofs.slots.Slots.names.Given as goal

-- the labels taken so far, followed by those still to come, are those of all slots with content
abbrev pub invariant-loop-name : goal.invariant-loop-name
invariant-loop-name g l = l.names.items ++ keys_of (filled l.name-iterator) ≡ keys_of (filled l.self)
