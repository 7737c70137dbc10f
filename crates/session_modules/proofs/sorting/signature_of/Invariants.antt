use Rattle.std.proofs.Common.{◌≡◌, [], take}
use Rattle.session_modules.specs.inside.Declaring.{declared_by}
use Rattle.session_modules.proofs.sorting.signature_of.Given as goal

-- the constructors of the modules passed were added
abbrev pub invariant-loop-named : goal.invariant-loop-named
invariant-loop-named l = l.signature.declared ≡ declared_by (take l.named-index l.modules) []

-- and then their injections
abbrev pub invariant-loop-named-2 : goal.invariant-loop-named-2
invariant-loop-named-2 l = l.signature.declared ≡ declared_by l.modules (take l.named-index l.modules)
