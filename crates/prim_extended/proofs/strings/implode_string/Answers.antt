use Rattle.std.proofs.Common.{◌<◌, ◌≤◌, length, arith}
use Rattle.prim_extended.proofs.BytesLemmas.{too_many, imploded}
use Rattle.prim_extended.proofs.strings.implode_string.Goals as goal

pub returns-then-elements-gt-MAX_STRING : goal.returns-then-elements-gt-MAX_STRING
returns-then-elements-gt-MAX_STRING c =
    let many : 65536 < length c.in-Some.elements.now = omega (arith, c.if-elements-gt-MAX_STRING.true) in
    too_many c.args.arguments.now c.in-Some.elements.now c.in-Some.ensures many

pub returns-in_ok-string-in-Some-2 : goal.returns-in_ok-string-in-Some-2
returns-in_ok-string-in-Some-2 c =
    let few : length c.in-Some.elements.now ≤ 65536 = omega (arith, c.if-elements-gt-MAX_STRING.false) in
    imploded c.args.arguments.now c.in-Some.elements.now c.in-Some-2.bytes.items c.deref.result.now
    c.in_ok-string-in-Some-2.field-0
    c.in-Some.ensures few (rw c.in-Some-2.is at c.in_ok-bytes.ensures) c.deref.ensures.value
    c.in_ok-string-in-Some-2.ensures
