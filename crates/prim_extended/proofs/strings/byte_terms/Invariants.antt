use Rattle.std.proofs.Common.{◌≡◌, map, take}
use Rattle.prim_extended.specs.Bytes.{byte_term}
use Rattle.prim_extended.proofs.strings.byte_terms.Given as goal

abbrev pub invariant-loop-byte : goal.invariant-loop-byte
invariant-loop-byte l = l.terms.items ≡ map byte_term (take l.byte-index l.bytes)
