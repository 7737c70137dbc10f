use Rattle.std.proofs.Common.{◌≡◌, ◌≤◌, ◌^◌, drop}
use Rattle.prim_extended.specs.Greatest.{counted_from}
use Rattle.prim_extended.proofs.greatest.digits.Given as goal

-- the number so far, and with the digits that are left
abbrev pub invariant-loop-byte : goal.invariant-loop-byte
invariant-loop-byte l =
    (counted_from 0 l.text ≡ counted_from l.number (drop l.byte-index l.text)) × (l.number ≤ 10 ^ 18)
