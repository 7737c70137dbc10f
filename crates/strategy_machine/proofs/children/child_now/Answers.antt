use Rattle.std.proofs.Common.{◌∙◌, sym, ap, Some}
use Rattle.strategy_machine.proofs.CallLemmas.{slice_there}
use Rattle.strategy_machine.proofs.PartsLemmas.{child_in, child_after}
use Rattle.strategy_machine.proofs.ResultLemmas.{ok_map}
use Rattle.strategy_machine.proofs.children.child_now.Goals as goal

pub returns-then-i-parts : goal.returns-then-i-parts
returns-then-i-parts c = ok_map c.child.result
    (λ child k. k ∙ child_after c.args.node.now c.args.parts.now c.args.i c.if-i-parts.true) c.child.ensures

pub returns : goal.returns
returns c = ap Some c.in_ok-try_clone.ensures
    ∙ sym (slice_there c.args.parts.now c.args.i c.index-parts-i.result c.if-i-parts.false c.index-parts-i.is)
    ∙ child_in c.args.node.now c.args.parts.now c.args.i c.if-i-parts.false
