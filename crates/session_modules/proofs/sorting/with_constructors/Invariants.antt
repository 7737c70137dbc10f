use Rattle.std.proofs.Common.{◌≡◌, take}
use Rattle.session_modules.specs.inside.Declaring.{and_constructors}
use Rattle.session_modules.proofs.sorting.with_constructors.Given as goal

-- those before were added
abbrev pub invariant-loop-declaration : goal.invariant-loop-declaration
invariant-loop-declaration l =
    l.signature.declared ≡ and_constructors l.fn.signature.declared (take l.declaration-index l.declarations)
