use Rattle.std.proofs.Common.{take}
use Rattle.term_changes.specs.Slots.{contents}
use Rattle.session_modules.specs.Modules.{AreRead}
use Rattle.session_modules.proofs.checked.same_front.Given as goal

-- the names passed are those of the modules passed
abbrev pub invariant-loop-at : goal.invariant-loop-at
invariant-loop-at l = AreRead (contents l.store).modules (take l.at l.names) (take l.at l.modules)
