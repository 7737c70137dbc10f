use Rattle.std.proofs.Common.{◌≡◌, take}
use Rattle.session_modules.specs.inside.Declaring.{and_injections}
use Rattle.session_modules.proofs.sorting.with_injections.Given as goal

-- those before were added
abbrev pub invariant-loop-injection : goal.invariant-loop-injection
invariant-loop-injection l =
    l.signature.declared ≡ and_injections l.fn.signature.declared (take l.injection-index l.injections)
