use Rattle.prim_extended.proofs.BytesLemmas.{one_more, no_byte}
use Rattle.prim_extended.proofs.strings.bytes_of.Goals as goal

pub loop-element-preserved : goal.loop-element-preserved
loop-element-preserved c =
    one_more c.args.elements.now c.loop-element.element-index c.element-item.result _ c.loop-element.bytes.items _
    c.loop-element-test.true c.element-item.is c.in-Some.ensures c.in_ok-push.ensures.items c.loop-element.invariant

pub returns-in_default : goal.returns-in_default
returns-in_default c =
    no_byte c.args.elements.now c.loop-element.element-index c.element-item.result c.loop-element.bytes.items
    c.loop-element-test.true c.element-item.is c.in_default.ensures c.loop-element.invariant
