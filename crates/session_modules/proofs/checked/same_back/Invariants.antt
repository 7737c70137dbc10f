use Rattle.std.proofs.Common.{drop, length, ◌-◌}
use Rattle.term_changes.specs.Slots.{contents}
use Rattle.session_modules.specs.Modules.{AreRead}
use Rattle.session_modules.proofs.checked.same_back.Given as goal

-- the names passed are those of the modules passed
abbrev pub invariant-loop-back : goal.invariant-loop-back
invariant-loop-back l = AreRead (contents l.store).modules (drop (length l.names - l.back) l.names)
    (drop (length l.modules - l.back) l.modules)
