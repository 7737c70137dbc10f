use Rattle.std.proofs.Common.{◌≡◌, ◌++◌, drop}
use Rattle.std.specs.Option.{option_map}
use Rattle.prim_extended.specs.Bytes.{byte_value, each}
use Rattle.prim_extended.proofs.strings.bytes_of.Given as goal

-- the bytes so far, and those of the elements that are left
abbrev pub invariant-loop-element : goal.invariant-loop-element
invariant-loop-element l = each byte_value l.elements
    ≡ option_map (λ bs. l.bytes.items ++ bs) (each byte_value (drop l.element-index l.elements))
