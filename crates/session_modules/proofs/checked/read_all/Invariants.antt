use Rattle.std.proofs.Common.{take}
use Rattle.term_changes.specs.Slots.{contents}
use Rattle.session_modules.specs.Modules.{AreRead}
use Rattle.session_modules.specs.Kept.{AreReadFrom}
use Rattle.session_modules.proofs.checked.read_all.Given as goal

-- the modules of the names passed
abbrev pub invariant-loop-name : goal.invariant-loop-name
invariant-loop-name l = record {
  read : AreRead (contents l.store).modules (take l.name-index l.names) l.new.modules.items;
  texts : AreReadFrom l.new.texts.items l.new.modules.items;
}
